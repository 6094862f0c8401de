use Rattle.bit_slices.proofs.PairProducts.{square_of_pair}
use Rattle.bit_slices.proofs.pair.PairSliced.square.Goals as goal

pub returns : goal.returns
returns g c l =
    let s = c.args.self.now in
    let squares = square_of_pair g.T.Sliced.LEVEL (g.T.Sliced.fits_law s.low l) (g.T.Sliced.fits_law s.high l) in
    cc (squares, c.square.ensures l, c.square-2.ensures l, c.add.ensures l, c.add_by_root.ensures l, c.add-2.ensures l)
