-- Bit n of the carryless product is the parity of the number of pairs of set bits whose places add to n.
use Rattle.std.proofs.Common.{◌≡◌, ℕ, zero, suc, ◌+◌, ◌-◌, ◌*◌, ◌/◌, ◌%◌, sym, ◌∙◌, ap, ap₂, lit<}
use Rattle.std.specs.Int.{bit_at}
use Rattle.std.proofs.lemmas.Nat.Bits.{bit_at_xor, bit_at-suc, bit_at_lowest, bit_at-zero}
use native.Mathlib.Nat.{zero-mul, one-mul, zero-add, add-zero, add_assoc, sub-zero, suc-sub-suc, add-mod-mod, mul-mod_left, mul-div_cancel}
use Rattle.field_base.specs.Carryless.{carryless, pairs_before, pairs, CarrylessCountsPairs}
use Rattle.field_base.proofs.CarrylessProduct.{carryless_step, bit_cases}

-- ---- pairs

-- the pair of the lowest place of a, and the pairs of the others
pairs_front : (a b n k : ℕ)
    → pairs_before a b (suc n) (suc k) ≡ bit_at a 0 * bit_at b (suc n) + pairs_before (a / 2) b n k
unfolding pairs_before
pairs_front a b n zero =
    zero-add (bit_at a 0 * bit_at b (suc n - 0)) ∙ ap (λ (x : ℕ). bit_at a 0 * bit_at b x) (sub-zero (suc n))
    ∙ sym (add-zero (bit_at a 0 * bit_at b (suc n)))
pairs_front a b n (suc k) =
    ap₂ (λ (x y : ℕ). x + y) (pairs_front a b n k)
    (ap₂ (λ (x y : ℕ). x * y) (bit_at-suc a k) (ap (bit_at b) (suc-sub-suc n k)))
    ∙ add_assoc (bit_at a 0 * bit_at b (suc n)) (pairs_before (a / 2) b n k) (bit_at (a / 2) k * bit_at b (n - k))

-- a single pair of places adds up to 0
pairs_lowest : (a b : ℕ) → pairs a b 0 ≡ bit_at a 0 * bit_at b 0
unfolding pairs_before
pairs_lowest a b = zero-add (bit_at a 0 * bit_at b (0 - 0))

-- ---- bits

-- bit n of a bit times b
bit_at-bit_times : (d b n : ℕ) → bit_at (d % 2 * b) n ≡ d % 2 * bit_at b n
bit_at-bit_times d b n =
    bit_cases (λ x. bit_at (x * b) n ≡ x * bit_at b n)
    (ap (λ (x : ℕ). bit_at x n) (zero-mul b) ∙ bit_at-zero n ∙ sym (zero-mul (bit_at b n)))
    (ap (λ (x : ℕ). bit_at x n) (one-mul b) ∙ sym (one-mul (bit_at b n))) d

-- bit n + 1 of 2 a is bit n of a
bit_at-double : (a n : ℕ) → bit_at (a * 2) (suc n) ≡ bit_at a n
bit_at-double a n = bit_at-suc (a * 2) n ∙ ap (λ (x : ℕ). bit_at x n) (mul-div_cancel a (lit< tt))

-- the lowest bit of 2 a is 0
bit_at-double_lowest : (a : ℕ) → bit_at (a * 2) 0 ≡ 0
bit_at-double_lowest a = bit_at_lowest (a * 2) ∙ mul-mod_left a 2

-- ---- the count

-- bit n of the product by the step over the lowest bit of a
carryless_bit-step : (a b n : ℕ)
    → bit_at (carryless a b) n ≡ (a % 2 * bit_at b n + bit_at (carryless (a / 2) b * 2) n) % 2
carryless_bit-step a b n =
    ap (λ (x : ℕ). bit_at x n) (carryless_step a b) ∙ bit_at_xor (a % 2 * b) (carryless (a / 2) b * 2) n
    ∙ ap (λ (x : ℕ). (x + bit_at (carryless (a / 2) b * 2) n) % 2) (bit_at-bit_times a b n)

-- bit n of a product is the parity of the number of pairs of set bits whose places add up to n
pub carryless_counts : CarrylessCountsPairs
carryless_counts a b zero =
    carryless_bit-step a b 0
    ∙ ap (λ (x : ℕ). (a % 2 * bit_at b 0 + x) % 2) (bit_at-double_lowest (carryless (a / 2) b))
    ∙ ap (λ (x : ℕ). x % 2) (add-zero (a % 2 * bit_at b 0)
    ∙ ap (λ (x : ℕ). x * bit_at b 0) (sym (bit_at_lowest a)) ∙ sym (pairs_lowest a b))
carryless_counts a b (suc n) =
    carryless_bit-step a b (suc n)
    ∙ ap₂ (λ (x y : ℕ). (x * bit_at b (suc n) + y) % 2) (sym (bit_at_lowest a))
    (bit_at-double (carryless (a / 2) b) n ∙ carryless_counts (a / 2) b n)
    ∙ add-mod-mod (bit_at a 0 * bit_at b (suc n)) (pairs (a / 2) b n) 2
    ∙ ap (λ (x : ℕ). x % 2) (sym (pairs_front a b n (suc n)))
