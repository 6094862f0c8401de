use Rattle.std.proofs.Common.{refl, arith}
use Rattle.field_base.specs.Remainder.{ghash_modulus}
use Rattle.word_polynomial.proofs.Sums.{two_products_added}
use Rattle.word_polynomial.proofs.moduli.GhashModulusModulusU128Bits128.add_two_products.Goals as goal

pub returns : goal.returns
returns c =
    two_products_added 128 ghash_modulus refl c.args.low c.args.high c.args.a c.args.b c.args.p c.args.q _ _ _ _ (omega arith) (omega arith)
    (omega arith) (omega arith) (omega arith) (omega arith) (omega arith) c.multiply_128_twice-first_low.ensures.first
    c.multiply_128_twice-first_low.ensures.second
