-- Sums over the numbers below a bound, and the bits of a number in two parts.
use Rattle.std.proofs.Common.{◌≡◌, ℕ, zero, suc, ◌+◌, ◌/◌, ◌%◌, ◌^◌, ◌<◌, ◌≤◌, ◌-◌, refl, sym, ◌∙◌, ap, ap₂, arith}
use Rattle.std.specs.Prelude.{bit_xor}
use Rattle.std.specs.Int.{bit_at}
use Rattle.std.proofs.lemmas.Nat.{shr-shr, shr_split}
use Rattle.std.proofs.lemmas.Nat.Bits.{bit_at_cat_low, bit_at_cat_high}
use native.Mathlib.Nat.{one-mul}
use lib.Bits.{xor_assoc, xor_zero_r}
use Rattle.field_base.specs.Basis.{sum_below, product_below}
use Rattle.field_base.specs.Ring.{IsRing}
use Rattle.field_base.proofs.RingLemmas.{zero-times, sum_times}

-- ---- sums and products

-- nothing is summed
pub sum_below-none : (f : ℕ → ℕ) → sum_below f 0 ≡ 0
unfolding sum_below
sum_below-none f = refl

-- a sum of zeros is 0
pub sum_below-zeros : (f : ℕ → ℕ) (n : ℕ) → ((j : ℕ) → j < n → f j ≡ 0) → sum_below f n ≡ 0
unfolding sum_below
sum_below-zeros f zero zeros = refl
sum_below-zeros f (suc n) zeros = ap₂ bit_xor (sum_below-zeros f n (λ j below. zeros j (omega (arith, below)))) (zeros n (omega arith))

-- the first m terms, and the n after them
pub sum_below-add : (f : ℕ → ℕ) (m n : ℕ) → sum_below f (m + n) ≡ bit_xor (sum_below f m) (sum_below (λ j. f (m + j)) n)
unfolding sum_below
sum_below-add f m zero =
    let none : m + 0 ≡ m = omega arith in
    ap (sum_below f) none ∙ sym (xor_zero_r (sum_below f m))
sum_below-add f m (suc n) =
    let next : m + suc n ≡ suc (m + n) = omega arith in
    ap (sum_below f) next ∙ ap (λ (x : ℕ). bit_xor x (f (m + n))) (sum_below-add f m n)
    ∙ xor_assoc (sum_below f m) (sum_below (λ j. f (m + j)) n) (f (m + n))

-- sums of equal terms are equal
pub sum_below-same : (f g : ℕ → ℕ) (n : ℕ) → ((j : ℕ) → j < n → f j ≡ g j) → sum_below f n ≡ sum_below g n
unfolding sum_below
sum_below-same f g zero same = refl
sum_below-same f g (suc n) same =
    ap₂ bit_xor (sum_below-same f g n (λ j below. same j (omega arith))) (same n (omega arith))

-- the products of two functions that agree below n are one
pub product_below-same : (times : ℕ → ℕ → ℕ) (f g : ℕ → ℕ) (n : ℕ) → ((j : ℕ) → j < n → f j ≡ g j)
    → product_below times f n ≡ product_below times g n
unfolding product_below
product_below-same times f g zero same = refl
product_below-same times f g (suc n) same =
    ap₂ times (product_below-same times f g n (λ j below. same j (omega arith))) (same n (omega arith))

-- a product by a sum is the sum of the products
pub sum_below_times : (width unit : ℕ) (times : ℕ → ℕ → ℕ) → IsRing width unit times → (f : ℕ → ℕ) (a n : ℕ)
    → sum_below (λ j. times (f j) a) n ≡ times (sum_below f n) a
unfolding sum_below
sum_below_times width unit times ring f a zero = sym (zero-times width unit times ring a)
sum_below_times width unit times ring f a (suc n) =
    ap (λ (x : ℕ). bit_xor x (times (f n) a)) (sum_below_times width unit times ring f a n)
    ∙ sym (sum_times width unit times ring (sum_below f n) (f n) a)

-- ---- bits

-- above place n a number has the bits of its quotient by 2 ^ n
pub bit_at-add : (x n j : ℕ) → bit_at x (n + j) ≡ bit_at (x / 2 ^ n) j
bit_at-add x n j = ap (λ (y : ℕ). y % 2) (sym (shr-shr x n j))

-- below place n it has those of its remainder
pub bit_at-mod : (x n j : ℕ) → j < n → bit_at (x % 2 ^ n) j ≡ bit_at x j
bit_at-mod x n j below =
    sym (bit_at_cat_low (x / 2 ^ n) n (x % 2 ^ n) j below) ∙ ap (λ (y : ℕ). bit_at y j) (shr_split x n)

-- 2 ^ n and a smaller number have the bits of that number, and bit n
pub bit_at_with-low : (n j m : ℕ) → m < n → bit_at (2 ^ n + j) m ≡ bit_at j m
bit_at_with-low n j m below =
    ap (λ (y : ℕ). bit_at (y + j) m) (sym (one-mul (2 ^ n))) ∙ bit_at_cat_low 1 n j m below

-- 2^n + j has bit n for j below 2^n
pub bit_at_with-top : (n j : ℕ) → j < 2 ^ n → bit_at (2 ^ n + j) n ≡ 1
bit_at_with-top n j fits =
    let same : n ≤ n = omega arith in
    let none : n - n ≡ 0 = omega arith in
    ap (λ (y : ℕ). bit_at (y + j) n) (sym (one-mul (2 ^ n))) ∙ bit_at_cat_high 1 n j n fits same
    ∙ ap (bit_at 1) none
