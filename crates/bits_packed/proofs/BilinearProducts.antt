-- Products of bytes by forms: sums of such products, and what a ring of bytes has to meet that its product is one.
use Rattle.std.proofs.Common.{◌≡◌, ℕ, zero, suc, ◌*◌, ◌^◌, ◌<◌, true, List, get_or, length, refl, sym, ◌∙◌, ap, ap₂, arith}
use Rattle.std.specs.Prelude.{bit_xor}
use Rattle.std.specs.Int.Bits.{xor_zero_l}
use native.Mathlib.Nat.{mul_comm}
use lib.Bits.{xor_self, xor_zero_r}
use Rattle.field_base.specs.Basis.{sum_below}
use Rattle.field_base.specs.lemmas.BitRing.{two_cases}
use Rattle.field_base.specs.Ring.{IsRing}
use Rattle.field_base.proofs.AdditiveMaps.{KeepsSums, agree_on_powers, agree_on_powers-true, maps_agree}
use Rattle.field_base.proofs.BasisSums.{sum_below-same, sum_below-zeros}
use Rattle.field_slices.proofs.LaplaceExpansion.{sum-lt}
use Rattle.field_slices.proofs.RowSpaces.{sum_of_sums}
use Rattle.bits_packed.specs.BytesAsBits.{bilinear_product, masked_sum}
use Rattle.bits_packed.proofs.MaskedSums.{bit-product, masked-keeps, masked-lt}

-- ---- sums of products

-- a number times a sum of two bits
weighted-bits : (weight a b : ℕ) → a < 2 → b < 2 → bit_xor (weight * a) (weight * b) ≡ weight * bit_xor a b
weighted-bits weight a b small other =
    two_cases (λ a. bit_xor (weight * a) (weight * b) ≡ weight * bit_xor a b)
    (ap (λ (x : ℕ). bit_xor x (weight * b)) none ∙ xor_zero_l (weight * b) ∙ ap (λ (x : ℕ). weight * x) (sym (xor_zero_l b)))
    (two_cases (λ b. bit_xor (weight * 1) (weight * b) ≡ weight * bit_xor 1 b)
    (ap (bit_xor (weight * 1)) none ∙ xor_zero_r (weight * 1))
    (xor_self (weight * 1) ∙ sym none) b other)
    a small
  where
    none : weight * 0 ≡ 0
    none = omega arith

-- a number times a sum of many
weighted : (weight : ℕ) (f : ℕ → ℕ) (n : ℕ) → ((k : ℕ) → f k < 2) → sum_below (λ k. weight * f k) n ≡ weight * sum_below f n
unfolding sum_below
weighted weight f zero small = omega arith
weighted weight f (suc n) small =
    ap (λ (x : ℕ). bit_xor x (weight * f n)) (weighted weight f n small)
    ∙ weighted-bits weight (sum_below f n) (f n) (sum-lt 1 f n small) (small n)

module _ (forms : List (ℕ × ℕ)) (l r : ℕ → ℕ) (inner : ℕ) where
  abbrev both : ℕ → ℕ → ℕ
  both t k = masked_sum (get_or forms t (0, 0)).0 (l k) * masked_sum (get_or forms t (0, 0)).0 (r k)

  both-lt : (t k : ℕ) → both t k < 2
  both-lt t k = bit-product (masked_sum (get_or forms t (0, 0)).0 (l k)) (masked_sum (get_or forms t (0, 0)).0 (r k))
      (masked-lt (get_or forms t (0, 0)).0 (l k)) (masked-lt (get_or forms t (0, 0)).0 (r k))

  -- the sum of the products of bytes is the sum of the weighted sums of products of bits
  some-forms : (n : ℕ) → sum_below (λ k. sum_below (λ t. (get_or forms t (0, 0)).1 * both t k) n) inner
      ≡ sum_below (λ t. (get_or forms t (0, 0)).1 * sum_below (both t) inner) n
  unfolding sum_below
  some-forms zero = sum_below-zeros (λ k. 0) inner (λ k below. refl)
  some-forms (suc n) =
      sum_of_sums (λ k. sum_below (λ t. (get_or forms t (0, 0)).1 * both t k) n) (λ k. (get_or forms n (0, 0)).1 * both n k) inner
      ∙ ap₂ bit_xor (some-forms n) (weighted (get_or forms n (0, 0)).1 (both n) inner (both-lt n))

  pub bilinear-sum : sum_below (λ k. bilinear_product forms (l k) (r k)) inner
      ≡ sum_below (λ t. (get_or forms t (0, 0)).1 * sum_below (both t) inner) (length forms)
  bilinear-sum = some-forms (length forms)

-- ---- rings

module _ (forms : List (ℕ × ℕ)) where
  -- the product keeps sums of its right operand
  right-keeps : (x : ℕ) → KeepsSums (bilinear_product forms x)
  right-keeps x a b =
      sum_below-same (λ t. weight t * (sum t x * sum t (bit_xor a b)))
      (λ t. bit_xor (weight t * (sum t x * sum t a)) (weight t * (sum t x * sum t b))) (length forms)
      (λ t _. ap (λ (s : ℕ). weight t * (sum t x * s)) (masked-keeps (get_or forms t (0, 0)).0 a b)
      ∙ ap (λ (s : ℕ). weight t * s)
      (sym (weighted-bits (sum t x) (sum t a) (sum t b) (masked-lt (get_or forms t (0, 0)).0 a) (masked-lt (get_or forms t (0, 0)).0 b)))
      ∙ sym (weighted-bits (weight t) (sum t x * sum t a) (sum t x * sum t b) (both t x a) (both t x b)))
      ∙ sum_of_sums (λ t. weight t * (sum t x * sum t a)) (λ t. weight t * (sum t x * sum t b)) (length forms)
    where
      weight : ℕ → ℕ
      weight t = (get_or forms t (0, 0)).1

      sum : ℕ → ℕ → ℕ
      sum t y = masked_sum (get_or forms t (0, 0)).0 y

      both : (t a b : ℕ) → sum t a * sum t b < 2
      both t a b = bit-product (sum t a) (sum t b) (masked-lt (get_or forms t (0, 0)).0 a) (masked-lt (get_or forms t (0, 0)).0 b)

  -- and commutes
  forms-commute : (x y : ℕ) → bilinear_product forms x y ≡ bilinear_product forms y x
  forms-commute x y =
      sum_below-same (λ t. (get_or forms t (0, 0)).1 * (masked_sum (get_or forms t (0, 0)).0 x * masked_sum (get_or forms t (0, 0)).0 y))
      (λ t. (get_or forms t (0, 0)).1 * (masked_sum (get_or forms t (0, 0)).0 y * masked_sum (get_or forms t (0, 0)).0 x)) (length forms)
      (λ t _. ap (λ (p : ℕ). (get_or forms t (0, 0)).1 * p)
      (mul_comm (masked_sum (get_or forms t (0, 0)).0 x) (masked_sum (get_or forms t (0, 0)).0 y)))

  -- so that it is the product of a ring with which it agrees at the powers of two
  pub ring-by-forms : {unit : ℕ} (times : ℕ → ℕ → ℕ) → IsRing 8 unit times
      → ((i : ℕ) → i < 8 → agree_on_powers (times (2 ^ i)) (bilinear_product forms (2 ^ i)) 8 ≡ true)
      → (x y : ℕ) → x < 2 ^ 8 → y < 2 ^ 8 → times x y ≡ bilinear_product forms x y
  ring-by-forms times ring agree x y small other =
      maps_agree (times x) (bilinear_product forms x) (ring.over_sum x) (right-keeps x) 8
      (λ j within.
      ring.comm x (2 ^ j)
      ∙ maps_agree (times (2 ^ j)) (bilinear_product forms (2 ^ j)) (ring.over_sum (2 ^ j)) (right-keeps (2 ^ j)) 8
      (agree_on_powers-true (times (2 ^ j)) (bilinear_product forms (2 ^ j)) 8 (agree j within)) x small
      ∙ forms-commute (2 ^ j) x)
      y other
