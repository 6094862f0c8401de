use Rattle.std.proofs.Common.{refl, sym, ◌∙◌, arith}
use Rattle.field_base.specs.Remainder.{poly64_modulus}
use Rattle.word_polynomial.proofs.Sums.{two_products_added}
use Rattle.word_polynomial.proofs.moduli.Poly64ModulusModulusU64Bits64.add_two_products.Goals as goal

pub returns : goal.returns
returns c =
    two_products_added 64 poly64_modulus refl c.args.low c.args.high c.args.a c.args.b c.args.p c.args.q _ _ _ _ (omega arith) (omega arith)
    (omega arith) (omega arith) (omega arith) (omega arith) (omega arith)
    (sym c.multiply_64_twice-first.ensures.first ∙ c.split_128-first_low.ensures)
    (sym c.multiply_64_twice-first.ensures.second ∙ c.split_128-second_low.ensures)
