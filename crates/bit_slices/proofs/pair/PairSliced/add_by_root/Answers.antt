use Rattle.bit_slices.proofs.PairProducts.{added_by_root}
use Rattle.bit_slices.proofs.pair.PairSliced.add_by_root.Goals as goal

pub returns : goal.returns
returns g c l =
    let fits = g.T.Sliced.fits_law in
    let s = c.args.self.now in
    let x = c.args.x.now in
    let sums = added_by_root g.T.Sliced.LEVEL (g.T.Sliced.lane s.high l) (fits s.low l) (fits x.low l) (fits x.high l) in
    cc (sums, c.add.ensures l, c.add-2.ensures l, c.add_by_root.ensures l)
