use Rattle.std.proofs.Common.{refl, arith}
use Rattle.field_base.specs.Remainder.{ghash_modulus}
use Rattle.word_polynomial.proofs.Sums.{product_added}
use Rattle.word_polynomial.proofs.moduli.GhashModulusModulusU128Bits128.add_product.Goals as goal

pub returns : goal.returns
returns c =
    product_added 128 ghash_modulus refl c.args.low c.args.high c.args.x c.args.y _ _ (omega arith) (omega arith) (omega arith) (omega arith)
    c.multiply_128-product_low.ensures
