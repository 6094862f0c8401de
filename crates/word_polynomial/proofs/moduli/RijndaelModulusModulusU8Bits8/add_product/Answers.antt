use Rattle.std.proofs.Common.{ℕ, ◌%◌, ◌^◌, ◌∙◌, ap}
use Rattle.std.specs.Prelude.{bit_xor}
use Rattle.std.proofs.lemmas.Nat.{xor_mod}
use native.Mathlib.Nat.{mod-eq_of_lt}
use Rattle.word_tables.proofs.Isomorphisms.{field_8}
use Rattle.word_polynomial.proofs.moduli.RijndaelModulusModulusU8Bits8.add_product.Goals as goal

-- a product is a byte
pub returns : goal.returns
returns c =
    xor_mod c.args.low c.multiply.result 8
    ∙ ap (bit_xor (c.args.low % 2 ^ 8))
    (ap (λ (x : ℕ). x % 2 ^ 8) c.multiply.ensures ∙ mod-eq_of_lt (field_8.ring.below c.args.x c.args.y))
