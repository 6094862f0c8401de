-- Products in a quadratic extension in the forms in which they are computed: a square, a square root, a product from
-- three products below, a product by the root, and products by elements of the ring below.
use Rattle.std.proofs.Common.{◌≡◌, ℕ, ◌+◌, ◌%◌, ◌^◌, ◌<◌, sym, ◌∙◌, ap, ap₂, arith}
use Rattle.std.specs.Prelude.{bit_xor}
use Rattle.std.proofs.lemmas.Nat.{xor_comm, pow_pos, pow_below}
use native.Mathlib.Nat.{mod-eq_of_lt, div-eq_of_lt, zero-mul, zero-add}
use lib.Bits.{xor_assoc, xor_self, xor_zero_r}
use Rattle.field_base.specs.Ring.{IsRing}
use Rattle.field_base.specs.Quadratic.{low_half, high_half, pair, quadratic}
use Rattle.field_base.proofs.RingLemmas.{xor_left_comm, xor_cancel, sum_times, times_left_comm, times-zero, zero-times}
use Rattle.field_base.proofs.PowerLemmas.{one-times, times-one}
use Rattle.field_base.proofs.QuadraticRing.{low_half-lt, high_half-lt, low_half-pair, high_half-pair, pair-halves, low_product, high_product, quadratic-halves, quadratic-pair_left}

-- an element of the ring below is the pair of itself and 0
pub low_half-low : (width a : ℕ) → a < 2 ^ width → low_half width a ≡ a
low_half-low width a fits = mod-eq_of_lt fits

-- the high half of a number of w bits is 0
pub high_half-low : (width a : ℕ) → a < 2 ^ width → high_half width a ≡ 0
high_half-low width a fits = ap (λ (x : ℕ). x % 2 ^ width) (div-eq_of_lt fits) ∙ mod-eq_of_lt (pow_pos width)

-- a with the high half 0 is a
pub pair-low : (width a : ℕ) → pair width a 0 ≡ a
pair-low width a = ap (λ (x : ℕ). x + a) (zero-mul (2 ^ width)) ∙ zero-add a

-- the number of the root has the halves 0 and 1
pub pair-root : (width : ℕ) → pair width 0 1 ≡ 2 ^ width
pair-root width = omega arith

module _ (width : ℕ) (times : ℕ → ℕ → ℕ) (ring : IsRing width 1 times) (t : ℕ) where
  -- the product of two pairs of halves
  pub quadratic-pairs : (a0 a1 b0 b1 : ℕ) → a0 < 2 ^ width → a1 < 2 ^ width → b0 < 2 ^ width → b1 < 2 ^ width
      → quadratic width times t (pair width a0 a1) (pair width b0 b1)
      ≡ pair width (low_product width times ring t a0 a1 b0 b1) (high_product width times ring t a0 a1 b0 b1)
  quadratic-pairs a0 a1 b0 b1 a0_fits a1_fits b0_fits b1_fits =
      quadratic-pair_left width times ring t a0 a1 (pair width b0 b1) a0_fits a1_fits
      ∙ ap₂ (λ (x y : ℕ). pair width (low_product width times ring t a0 a1 x y) (high_product width times ring t a0 a1 x y))
      (low_half-pair width b0 b1 b0_fits) (high_half-pair width b0 b1 b0_fits b1_fits)

  -- ---- squares

  -- the mixed products of a square are equal, so only the product of the high halves stays above
  high_product-square : (a0 a1 : ℕ) → high_product width times ring t a0 a1 a0 a1 ≡ times t (times a1 a1)
  high_product-square a0 a1 =
      ap (λ (x : ℕ). bit_xor (bit_xor (times a0 a1) x) (times t (times a1 a1))) (ring.comm a1 a0)
      ∙ ap (λ (x : ℕ). bit_xor x (times t (times a1 a1))) (xor_self (times a0 a1))

  -- (a0 + a1 X)² = (a0² + a1²) + t a1² X
  pub quadratic-square : (a : ℕ) → quadratic width times t a a
      ≡ pair width
      (bit_xor (times (low_half width a) (low_half width a)) (times (high_half width a) (high_half width a)))
      (times t (times (high_half width a) (high_half width a)))
  quadratic-square a =
      quadratic-halves width times ring t a a
      ∙ ap (pair width (bit_xor (times (low_half width a) (low_half width a)) (times (high_half width a) (high_half width a))))
      (high_product-square (low_half width a) (high_half width a))

  -- the square of an element given by its halves
  pub quadratic-square_pair : (a0 a1 : ℕ) → a0 < 2 ^ width → a1 < 2 ^ width
      → quadratic width times t (pair width a0 a1) (pair width a0 a1)
      ≡ pair width (bit_xor (times a0 a0) (times a1 a1)) (times t (times a1 a1))
  quadratic-square_pair a0 a1 low_fits high_fits =
      quadratic-pairs a0 a1 a0 a1 low_fits high_fits low_fits high_fits
      ∙ ap (pair width (bit_xor (times a0 a0) (times a1 a1))) (high_product-square a0 a1)

  -- r0 + r1 X is a root of a0 + a1 X where r1² is a1 / t and r0² is a0 + a1 / t
  pub quadratic-sqrt : (s : ℕ) → times t s ≡ 1 → (a r0 r1 : ℕ) → r0 < 2 ^ width → r1 < 2 ^ width
      → times r0 r0 ≡ bit_xor (low_half width a) (times (high_half width a) s)
      → times r1 r1 ≡ times (high_half width a) s
      → quadratic width times t (pair width r0 r1) (pair width r0 r1) ≡ a % 2 ^ (width + width)
  quadratic-sqrt s unit a r0 r1 low_fits high_fits low_square high_square =
      quadratic-square_pair r0 r1 low_fits high_fits
      ∙ ap₂ (pair width) (ap₂ bit_xor low_square high_square ∙ low_root) (ap (times t) high_square ∙ high_root)
      ∙ pair-halves width a
    where
      low_root : bit_xor (bit_xor (low_half width a) (times (high_half width a) s)) (times (high_half width a) s)
          ≡ low_half width a
      low_root =
          xor_assoc (low_half width a) _ _
          ∙ ap (bit_xor (low_half width a)) (xor_self (times (high_half width a) s)) ∙ xor_zero_r (low_half width a)

      high_root : times t (times (high_half width a) s) ≡ high_half width a
      high_root =
          times_left_comm width 1 times ring t (high_half width a) s ∙ ap (times (high_half width a)) unit
          ∙ times-one width 1 times ring (high_half width a) (high_half-lt width a)

  -- ---- three products below

  -- the sum of the mixed products from the product of the sums
  pub mixed_products : (a0 a1 b0 b1 : ℕ)
      → bit_xor (bit_xor (times (bit_xor a0 a1) (bit_xor b0 b1)) (times a0 b0)) (times a1 b1)
      ≡ bit_xor (times a0 b1) (times a1 b0)
  mixed_products a0 a1 b0 b1 =
      simp (sum_times width 1 times ring, ring.over_sum, xor_assoc, xor_comm, xor_left_comm, xor_self, xor_cancel)

  -- the product by Karatsuba's rule, from three products of halves
  pub quadratic-karatsuba : (a b : ℕ) → quadratic width times t a b
      ≡ pair width
      (bit_xor (times (low_half width a) (low_half width b)) (times (high_half width a) (high_half width b)))
      (bit_xor
      (bit_xor
      (bit_xor
      (times (bit_xor (low_half width a) (high_half width a)) (bit_xor (low_half width b) (high_half width b)))
      (times (low_half width a) (low_half width b)))
      (times (high_half width a) (high_half width b)))
      (times t (times (high_half width a) (high_half width b))))
  quadratic-karatsuba a b =
      quadratic-halves width times ring t a b
      ∙ ap (λ (x : ℕ). pair width
      (bit_xor (times (low_half width a) (low_half width b)) (times (high_half width a) (high_half width b)))
      (bit_xor x (times t (times (high_half width a) (high_half width b)))))
      (sym (mixed_products (low_half width a) (high_half width a) (low_half width b) (high_half width b)))

  -- ---- the ring below

  -- an element of the ring below multiplies half by half
  pub quadratic-low_times : (a b : ℕ) → a < 2 ^ width → quadratic width times t a b
      ≡ pair width (times a (low_half width b)) (times a (high_half width b))
  quadratic-low_times a b fits =
      ap (λ (x : ℕ). quadratic width times t x b) (sym (pair-low width a))
      ∙ quadratic-pair_left width times ring t a 0 b fits (pow_pos width)
      ∙ ap₂ (pair width)
      (ap (bit_xor (times a (low_half width b))) (zero-times width 1 times ring (high_half width b))
      ∙ xor_zero_r (times a (low_half width b)))
      (ap₂ bit_xor
      (ap (bit_xor (times a (high_half width b))) (zero-times width 1 times ring (low_half width b))
      ∙ xor_zero_r (times a (high_half width b)))
      (ap (times t) (zero-times width 1 times ring (high_half width b)) ∙ times-zero width 1 times ring t)
      ∙ xor_zero_r (times a (high_half width b)))

  -- of elements of the ring below the product is that of the ring below
  pub quadratic-low : (a b : ℕ) → a < 2 ^ width → b < 2 ^ width → quadratic width times t a b ≡ times a b
  quadratic-low a b a_fits b_fits =
      quadratic-low_times a b a_fits
      ∙ ap₂ (λ (x y : ℕ). pair width (times a x) (times a y)) (low_half-low width b b_fits) (high_half-low width b b_fits)
      ∙ ap (pair width (times a b)) (times-zero width 1 times ring a) ∙ pair-low width (times a b)

  -- ---- the root

  -- X (a0 + a1 X) is a1 + (a0 + t a1) X
  pub quadratic-root : 0 < width → (a : ℕ) → quadratic width times t (2 ^ width) a
      ≡ pair width (high_half width a) (bit_xor (low_half width a) (times t (high_half width a)))
  quadratic-root wide a =
      ap (λ (x : ℕ). quadratic width times t x a) (sym (pair-root width))
      ∙ quadratic-pair_left width times ring t 0 1 a (pow_pos width) (pow_below 0 width wide)
      ∙ ap₂ (pair width)
      (ap₂ bit_xor (zero-times width 1 times ring (low_half width a)) high_one)
      (ap₂ bit_xor
      (ap₂ bit_xor (zero-times width 1 times ring (high_half width a))
      (one-times width 1 times ring (low_half width a) (low_half-lt width a)))
      (ap (times t) high_one))
    where
      high_one : times 1 (high_half width a) ≡ high_half width a
      high_one = one-times width 1 times ring (high_half width a) (high_half-lt width a)
