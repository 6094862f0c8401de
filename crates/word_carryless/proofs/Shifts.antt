-- The product by a power of x, in two double words.
use Rattle.std.proofs.Common.{◌≡◌, ℕ, ◌+◌, ◌-◌, ◌*◌, ◌/◌, ◌%◌, ◌^◌, ◌<◌, sym, ◌∙◌, ap, arith}
use Rattle.std.proofs.lemmas.Nat.{shr-shr, shr_split, pow-add, pow_pos}
use native.Mathlib.Nat.{mul-div-mul_right}
use Rattle.field_base.specs.Carryless.{carryless}
use Rattle.field_base.proofs.ValueLemmas.{carryless_power}

-- the product of a double word by x^k is its bits shifted up by k places: those past the double word, and those in it
pub shifted_128 : (x k : ℕ) → k < 128 → carryless x (2 ^ k) ≡ x / 2 / 2 ^ (127 - k) * 2 ^ 128 + x * 2 ^ k % 2 ^ 128
shifted_128 x k within =
    carryless_power x k ∙ sym (shr_split (x * 2 ^ k) 128)
    ∙ ap (λ (h : ℕ). h * 2 ^ 128 + x * 2 ^ k % 2 ^ 128) (high ∙ sym (shr-shr x 1 (127 - k) ∙ ap (λ (n : ℕ). x / 2 ^ n) parts))
  where
    parts : 1 + (127 - k) ≡ 128 - k
    parts = omega (arith, within)

    whole : 2 ^ 128 ≡ 2 ^ (128 - k) * 2 ^ k
    whole = let sum : 128 ≡ 128 - k + k = omega (arith, within) in ap (λ (n : ℕ). 2 ^ n) sum ∙ pow-add 2 (128 - k) k

    high : x * 2 ^ k / 2 ^ 128 ≡ x / 2 ^ (128 - k)
    high = ap (λ (d : ℕ). x * 2 ^ k / d) whole ∙ mul-div-mul_right x (2 ^ (128 - k)) (pow_pos k)
