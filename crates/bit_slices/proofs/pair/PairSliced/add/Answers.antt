use Rattle.bit_slices.proofs.PairProducts.{sum_of_pairs}
use Rattle.bit_slices.proofs.pair.PairSliced.add.Goals as goal

pub returns : goal.returns
returns g c l =
    let fits = g.T.Sliced.fits_law in
    let sum = c.args.self.now in
    let x = c.args.x.now in
    let sums = sum_of_pairs g.T.Sliced.LEVEL (g.T.Sliced.lane sum.high l) (g.T.Sliced.lane x.high l) (fits sum.low l) (fits x.low l) in
    cc (sums, c.add.ensures l, c.add-2.ensures l)
