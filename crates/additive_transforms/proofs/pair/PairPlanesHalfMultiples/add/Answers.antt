use Rattle.additive_transforms.specs.Halves.{lane_of_halves}
use Rattle.additive_transforms.specs.Rows.{level_of}
use Rattle.additive_transforms.proofs.LaneFacts.{sum_of_pairs}
use Rattle.additive_transforms.proofs.pair.PairPlanesHalfMultiples.add.Goals as goal

pub returns : goal.returns
unfolding lane_of_halves
returns g c l below =
    let lane = g.P.Planes.lane in
    let fits = g.met.P.Planes.fits_law in
    let x = c.args.self.now in
    let y = c.args.other.now in
    let sums =
    sum_of_pairs (level_of g.P.Planes.depth) (lane x.low l) (lane x.high l) (lane y.low l) (lane y.high l) (fits x.low l) (fits y.low l) in
    cc (sums, c.add.ensures l below, c.add-2.ensures l below)
