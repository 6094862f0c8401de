-- Inverses by Fermat's power.
use Rattle.std.proofs.Common.{◌≡◌, ◌≢◌, ℕ, ◌-◌, ◌^◌, ◌<◌, lit<}
use Rattle.field_base.specs.Field.{IsField}
use Rattle.field_base.specs.Powers.{power}
use Rattle.field_base.specs.Remainder.{ghash_modulus, mul_mod, poly64_modulus}
use Rattle.field_base.proofs.FieldLemmas.{power-inverts}
use Rattle.word_tables.proofs.Isomorphisms.{field_64, field_128}
use Rattle.word_carryless.proofs.Chains.{power_of_zero}

-- the power 2^width - 2 of 0 is 0, and that of another element is its inverse
pub record PowerInverts (width : ℕ) (times : ℕ → ℕ → ℕ) : Type 0 where
  -- 0^(2^width - 2) = 0
  pub of_zero : power 1 times 0 (2 ^ width - 2) ≡ 0
  -- x * x^(2^width - 2) = 1 for nonzero x
  pub of_others : (x : ℕ) → x < 2 ^ width → x ≢ 0 → times x (power 1 times x (2 ^ width - 2)) ≡ 1

-- in every field of 2^width elements with width at least 2 the power 2^width - 2 inverts
power_inverts : (width : ℕ) (times : ℕ → ℕ → ℕ) → IsField width times → 0 < width → 1 < 2 ^ width → 0 < 2 ^ width - 2
    → PowerInverts width times
power_inverts width times field wide proper positive =
    record {
      of_zero = power_of_zero width times field.ring proper (2 ^ width - 2) positive;
      of_others = power-inverts width times field wide;
    }

-- modulo x^64 + x^4 + x^3 + x + 1 the power 2^64 - 2 inverts
pub power_inverts_64 : PowerInverts 64 (mul_mod 64 poly64_modulus)
power_inverts_64 = power_inverts 64 (mul_mod 64 poly64_modulus) field_64 (lit< tt) (lit< tt) (lit< tt)

-- modulo x^128 + x^7 + x^2 + x + 1 the power 2^128 - 2 inverts
pub power_inverts_128 : PowerInverts 128 (mul_mod 128 ghash_modulus)
power_inverts_128 = power_inverts 128 (mul_mod 128 ghash_modulus) field_128 (lit< tt) (lit< tt) (lit< tt)
