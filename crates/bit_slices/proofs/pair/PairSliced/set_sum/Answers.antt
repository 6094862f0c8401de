use Rattle.bit_slices.proofs.PairProducts.{sum_of_pairs}
use Rattle.bit_slices.proofs.pair.PairSliced.set_sum.Goals as goal

pub returns : goal.returns
returns g c l =
    let lane = g.T.Sliced.lane in
    let x = c.args.x.now in
    let y = c.args.y.now in
    let sums =
    sum_of_pairs g.T.Sliced.LEVEL (lane x.high l) (lane y.high l) (g.T.Sliced.fits_law x.low l) (g.T.Sliced.fits_law y.low l) in
    cc (sums, c.set_sum.ensures l, c.set_sum-2.ensures l)
