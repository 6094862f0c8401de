use Rattle.std.proofs.Common.{◌/◌, map}
use Rattle.additive_transforms.specs.Halves.{lane_of_halves}
use Rattle.additive_transforms.proofs.UnitFacts.{half_units, joint, joint-first, joint-second, evens_of, odds_of, pairs_read, two_read}
use Rattle.additive_transforms.proofs.word_planes.PairWordPlanesHalfMultiples.gather.Goals as goal

pub gather-first-requires-clause-count : goal.gather-first-requires-clause-count
gather-first-requires-clause-count g c =
    (half_units g.P.Planes.depth g.W.WordBytes.size c.args.count g.P.Planes.lanes g.met.W.WordBytes.size_law g.met.P.WordPlanes.whole_law c.requires.count).0

pub gather-second-requires-clause-count : goal.gather-second-requires-clause-count
gather-second-requires-clause-count g c =
    (half_units g.P.Planes.depth g.W.WordBytes.size c.args.count g.P.Planes.lanes g.met.W.WordBytes.size_law g.met.P.WordPlanes.whole_law c.requires.count).0

pub returns : goal.returns
unfolding lane_of_halves
returns g c =
    let d = g.P.Planes.depth in
    let size = g.W.WordBytes.size in
    let n = g.P.Planes.lanes in
    let whole = g.met.P.WordPlanes.whole_law in
    let half = half_units d size c.args.count n g.met.W.WordBytes.size_law whole c.requires.count in
    let numbers = map g.W.Reads.number c.args.words.now in
    let x = g.P.Planes.lane c.gather-first.result in
    let y = g.P.Planes.lane c.gather-second.result in
    let low = g.P.Planes.lane c.unwoven-low.result.0 in
    let high = g.P.Planes.lane c.unwoven-low.result.1 in
    pairs_read d size c.args.start n low high (joint n x y) (evens_of n x y low high whole c.unwoven-low.ensures)
    (odds_of n x y low high whole c.unwoven-low.ensures) numbers
    (two_read d size c.args.start (c.args.count / 2) n half.0 x y (joint n x y) (joint-first n x y) (λ p past below. joint-second n x y p past)
    numbers c.gather-first.ensures c.gather-second.ensures)
