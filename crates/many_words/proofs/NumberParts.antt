-- Numbers as exclusive ors of their low and their high parts.
use Rattle.std.proofs.Common.{◌≡◌, ℕ, ◌+◌, ◌*◌, ◌^◌, ◌<◌, ◌∙◌, ap, ap₂, arith}
use Rattle.std.specs.Prelude.{bit_xor}
use Rattle.std.proofs.lemmas.Nat.{pow_pos, xor_block, xor_comm}
use lib.Bits.{xor_zero_r}
use Rattle.field_base.proofs.CarrylessProduct.{xor_shl}

-- a part below 2 ^ k and one above
pub two_parts : (k low high : ℕ) → low < 2 ^ k → bit_xor low (high * 2 ^ k) ≡ high * 2 ^ k + low
two_parts k low high fits =
    ap₂ bit_xor first second
    ∙ xor_block k 0 high low 0 fits (pow_pos k)
    ∙ ap₂ (λ (x y : ℕ). x * 2 ^ k + y) (xor_comm 0 high ∙ xor_zero_r high) (xor_zero_r low)
  where
    first : low ≡ 0 * 2 ^ k + low
    first = omega arith

    second : high * 2 ^ k ≡ high * 2 ^ k + 0
    second = omega arith

-- so it is further up
pub two_parts_at : (n k low high : ℕ) → low < 2 ^ k → bit_xor (low * 2 ^ n) (high * 2 ^ k * 2 ^ n) ≡ (high * 2 ^ k + low) * 2 ^ n
two_parts_at n k low high fits = xor_shl n low (high * 2 ^ k) ∙ ap (λ (x : ℕ). x * 2 ^ n) (two_parts k low high fits)
