use Rattle.std.proofs.Common.{refl, sym, ◌∙◌, arith}
use Rattle.field_base.specs.Remainder.{poly64_modulus}
use Rattle.word_polynomial.proofs.Sums.{product_added}
use Rattle.word_polynomial.proofs.moduli.Poly64ModulusModulusU64Bits64.add_product.Goals as goal

pub returns : goal.returns
returns c =
    product_added 64 poly64_modulus refl c.args.low c.args.high c.args.x c.args.y _ _ (omega arith) (omega arith) (omega arith) (omega arith)
    (sym c.multiply_64.ensures ∙ c.split_128-product_low.ensures)
