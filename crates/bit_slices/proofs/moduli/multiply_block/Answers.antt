use Rattle.std.proofs.Common.{◌^◌}
use Rattle.bit_slices.proofs.Reductions.{remainder_of_product}
use Rattle.bit_slices.proofs.moduli.multiply_block.Goals as goal

pub returns : goal.returns
returns g c l =
    remainder_of_product (2 ^ g.B.Sliced.LEVEL) g.B.PolynomialBlock.modulus _ _ g.met.B.PolynomialBlock.tail_law.degree
    (g.B.Sliced.fits_law c.args.block.now l) (g.B.Sliced.fits_law c.args.y.now l) (c.set_carryless_product.ensures l) (c.reduce.ensures l)
