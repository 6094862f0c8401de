use Rattle.bit_slices.proofs.Reductions.{reduced}
use Rattle.bit_slices.proofs.moduli.reduce.Goals as goal

pub returns : goal.returns
returns g c l =
    let sum = reduced g.met.B.PolynomialBlock.tail_law (g.B.Sliced.fits_law c.args.low.now l) (g.B.Sliced.fits_law c.args.high.now l) in
    cc (
      sum,
      c.zeros-spill.ensures l,
      c.highest.ensures l,
      c.add_by_tail.ensures.carried l,
      c.add_to_lowest.ensures l,
      c.zeros-carry.ensures l,
      c.add_by_tail-2.ensures.added l,
    )
