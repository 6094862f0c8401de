-- The quadratic extension of a ring of w-bit elements is a ring of elements of twice the width, whatever the
-- coefficient t of its polynomial X² + t X + 1 is.
use Rattle.std.proofs.Common.{◌≡◌, ℕ, ◌+◌, ◌/◌, ◌%◌, ◌^◌, ◌<◌, refl, sym, ◌∙◌, ap, ap₂, subst}
use Rattle.std.specs.Prelude.{bit_xor}
use Rattle.std.proofs.lemmas.Nat.{xor_comm, xor_lt, xor_shr, xor_mod, xor_block, mod-pow-add, mod_low, shr_high, pow-add, pow_pos, pow_below}
use native.Mathlib.Nat.{mod-eq_of_lt, mod-lt, div-eq_of_lt}
use lib.Arith.{digits_lt}
use lib.Bits.{xor_assoc, xor_zero_r}
use Rattle.field_base.specs.Ring.{IsRing}
use Rattle.field_base.specs.Quadratic.{low_half, high_half, pair, quadratic}
use Rattle.field_base.proofs.RingLemmas.{xor_left_comm, sum_times, times_left_comm, times-zero, zero-times}

-- ---- halves

-- the low half has w bits
pub low_half-lt : (width a : ℕ) → low_half width a < 2 ^ width
low_half-lt width a = mod-lt a (pow_pos width)

-- the high half has w bits
pub high_half-lt : (width a : ℕ) → high_half width a < 2 ^ width
high_half-lt width a = mod-lt (a / 2 ^ width) (pow_pos width)

-- the low half of a pair
pub low_half-pair : (width low high : ℕ) → low < 2 ^ width → low_half width (pair width low high) ≡ low
low_half-pair width low high fits = mod_low high width low fits

-- the high half of a pair
pub high_half-pair : (width low high : ℕ) → low < 2 ^ width → high < 2 ^ width
    → high_half width (pair width low high) ≡ high
high_half-pair width low high low_fits high_fits =
    ap (λ (x : ℕ). x % 2 ^ width) (shr_high high width low low_fits) ∙ mod-eq_of_lt high_fits

-- the halves of a number are those of its low bits
pub pair-halves : (width a : ℕ) → pair width (low_half width a) (high_half width a) ≡ a % 2 ^ (width + width)
pair-halves width a = sym (mod-pow-add a width width)

-- a pair of numbers of w bits has 2 w bits
pub pair-lt : (width low high : ℕ) → low < 2 ^ width → high < 2 ^ width → pair width low high < 2 ^ (width + width)
pair-lt width low high low_fits high_fits =
    subst (λ (x : ℕ). pair width low high < x) (sym (pow-add 2 width width)) (digits_lt high_fits low_fits)

-- the low half of a sum is the sum of the low halves
pub low_half_xor : (width a b : ℕ) → low_half width (bit_xor a b) ≡ bit_xor (low_half width a) (low_half width b)
low_half_xor width a b = xor_mod a b width

-- the high half of a sum is the sum of the high halves
pub high_half_xor : (width a b : ℕ) → high_half width (bit_xor a b) ≡ bit_xor (high_half width a) (high_half width b)
high_half_xor width a b =
    ap (λ (x : ℕ). x % 2 ^ width) (xor_shr a b width) ∙ xor_mod (a / 2 ^ width) (b / 2 ^ width) width

-- pairs are added half by half
pub pair_xor : (width low high low' high' : ℕ) → low < 2 ^ width → low' < 2 ^ width
    → pair width (bit_xor low low') (bit_xor high high') ≡ bit_xor (pair width low high) (pair width low' high')
pair_xor width low high low' high' fits fits' = sym (xor_block width high high' low low' fits fits')

-- ---- the product

-- what brings the terms of two sums into one order
ruleset sums = (xor_assoc, xor_comm, xor_left_comm)

module _ (width : ℕ) (times : ℕ → ℕ → ℕ) (ring : IsRing width 1 times) (t : ℕ) where
  -- the low half and the high half of the product of (a0, a1) and (b0, b1)
  abbrev pub low_product : ℕ → ℕ → ℕ → ℕ → ℕ
  low_product a0 a1 b0 b1 = bit_xor (times a0 b0) (times a1 b1)

  -- the high half of a product: a0 b1 + a1 b0 + t a1 b1
  abbrev pub high_product : ℕ → ℕ → ℕ → ℕ → ℕ
  high_product a0 a1 b0 b1 = bit_xor (bit_xor (times a0 b1) (times a1 b0)) (times t (times a1 b1))

  -- the low half of a product is an element of the ring
  pub low_product-lt : (a0 a1 b0 b1 : ℕ) → low_product a0 a1 b0 b1 < 2 ^ width
  low_product-lt a0 a1 b0 b1 = xor_lt width _ _ (ring.below a0 b0) (ring.below a1 b1)

  -- the high half of a product is an element of the ring
  pub high_product-lt : (a0 a1 b0 b1 : ℕ) → high_product a0 a1 b0 b1 < 2 ^ width
  high_product-lt a0 a1 b0 b1 =
      xor_lt width _ _ (xor_lt width _ _ (ring.below a0 b1) (ring.below a1 b0)) (ring.below t (times a1 b1))

  -- a product by the halves of its operands
  pub quadratic-halves : (a b : ℕ) → quadratic width times t a b
      ≡ pair width
      (low_product (low_half width a) (high_half width a) (low_half width b) (high_half width b))
      (high_product (low_half width a) (high_half width a) (low_half width b) (high_half width b))
  unfolding quadratic
  quadratic-halves a b = refl

  -- the product of a pair of halves
  pub quadratic-pair_left : (a0 a1 b : ℕ) → a0 < 2 ^ width → a1 < 2 ^ width
      → quadratic width times t (pair width a0 a1) b
      ≡ pair width (low_product a0 a1 (low_half width b) (high_half width b))
      (high_product a0 a1 (low_half width b) (high_half width b))
  quadratic-pair_left a0 a1 b low_fits high_fits =
      quadratic-halves (pair width a0 a1) b
      ∙ ap₂ (λ (x y : ℕ). pair width (low_product x y (low_half width b) (high_half width b))
      (high_product x y (low_half width b) (high_half width b)))
      (low_half-pair width a0 a1 low_fits) (high_half-pair width a0 a1 low_fits high_fits)

  -- ---- the two identities of associativity, half by half

  -- the low halves of (a b) c and a (b c) are one
  low_assoc : (a0 a1 b0 b1 c0 c1 : ℕ)
      → low_product (low_product a0 a1 b0 b1) (high_product a0 a1 b0 b1) c0 c1
      ≡ low_product a0 a1 (low_product b0 b1 c0 c1) (high_product b0 b1 c0 c1)
  low_assoc a0 a1 b0 b1 c0 c1 =
      simp (sum_times width 1 times ring, ring.over_sum, ring.assoc, times_left_comm width 1 times ring, sums)

  -- the high halves of (a b) c and a (b c) are one
  high_assoc : (a0 a1 b0 b1 c0 c1 : ℕ)
      → high_product (low_product a0 a1 b0 b1) (high_product a0 a1 b0 b1) c0 c1
      ≡ high_product a0 a1 (low_product b0 b1 c0 c1) (high_product b0 b1 c0 c1)
  high_assoc a0 a1 b0 b1 c0 c1 =
      simp (sum_times width 1 times ring, ring.over_sum, ring.assoc, times_left_comm width 1 times ring, sums)

  -- ---- the laws

  -- a b = b a
  pub quadratic_comm : (a b : ℕ) → quadratic width times t a b ≡ quadratic width times t b a
  quadratic_comm a b =
      quadratic-halves a b
      ∙ ap₂ (pair width)
      (ap₂ bit_xor (ring.comm (low_half width a) (low_half width b)) (ring.comm (high_half width a) (high_half width b)))
      (ap₂ bit_xor
      (ap₂ bit_xor (ring.comm (low_half width a) (high_half width b)) (ring.comm (high_half width a) (low_half width b))
      ∙ xor_comm (times (high_half width b) (low_half width a)) (times (low_half width b) (high_half width a)))
      (ap (times t) (ring.comm (high_half width a) (high_half width b))))
      ∙ sym (quadratic-halves b a)

  -- the product with the halves of the right operand given
  pub quadratic-pair_right : (a b0 b1 : ℕ) → b0 < 2 ^ width → b1 < 2 ^ width
      → quadratic width times t a (pair width b0 b1)
      ≡ pair width (low_product (low_half width a) (high_half width a) b0 b1)
      (high_product (low_half width a) (high_half width a) b0 b1)
  quadratic-pair_right a b0 b1 low_fits high_fits =
      quadratic-halves a (pair width b0 b1)
      ∙ ap₂ (λ (x y : ℕ). pair width (low_product (low_half width a) (high_half width a) x y)
      (high_product (low_half width a) (high_half width a) x y))
      (low_half-pair width b0 b1 low_fits) (high_half-pair width b0 b1 low_fits high_fits)

  -- (a b) c = a (b c)
  quadratic_assoc : (a b c : ℕ) → quadratic width times t (quadratic width times t a b) c
      ≡ quadratic width times t a (quadratic width times t b c)
  quadratic_assoc a b c =
      ap (λ (x : ℕ). quadratic width times t x c) (quadratic-halves a b)
      ∙ quadratic-pair_left _ _ c (low_product-lt _ _ _ _) (high_product-lt _ _ _ _)
      ∙ ap₂ (pair width) (low_assoc _ _ _ _ _ _) (high_assoc _ _ _ _ _ _)
      ∙ sym (quadratic-pair_right a _ _ (low_product-lt _ _ _ _) (high_product-lt _ _ _ _))
      ∙ ap (λ (x : ℕ). quadratic width times t a x) (sym (quadratic-halves b c))

  -- the low half of a (b + c) is that of a b + a c
  low_over_sum : (a0 a1 b0 b1 c0 c1 : ℕ) → low_product a0 a1 (bit_xor b0 c0) (bit_xor b1 c1)
      ≡ bit_xor (low_product a0 a1 b0 b1) (low_product a0 a1 c0 c1)
  low_over_sum a0 a1 b0 b1 c0 c1 = simp (ring.over_sum, xor_assoc, xor_left_comm)

  -- the high half of a (b + c) is that of a b + a c
  high_over_sum : (a0 a1 b0 b1 c0 c1 : ℕ) → high_product a0 a1 (bit_xor b0 c0) (bit_xor b1 c1)
      ≡ bit_xor (high_product a0 a1 b0 b1) (high_product a0 a1 c0 c1)
  high_over_sum a0 a1 b0 b1 c0 c1 = simp (ring.over_sum, xor_assoc, xor_left_comm)

  -- a (b + c) = a b + a c
  quadratic_over_sum : (a b c : ℕ) → quadratic width times t a (bit_xor b c)
      ≡ bit_xor (quadratic width times t a b) (quadratic width times t a c)
  quadratic_over_sum a b c =
      quadratic-halves a (bit_xor b c)
      ∙ ap₂ (λ (x y : ℕ). pair width (low_product (low_half width a) (high_half width a) x y)
      (high_product (low_half width a) (high_half width a) x y))
      (low_half_xor width b c) (high_half_xor width b c)
      ∙ ap₂ (pair width) (low_over_sum _ _ _ _ _ _) (high_over_sum _ _ _ _ _ _)
      ∙ pair_xor width _ _ _ _ (low_product-lt _ _ _ _) (low_product-lt _ _ _ _)
      ∙ sym (ap₂ bit_xor (quadratic-halves a b) (quadratic-halves a c))

  -- the one is the number 1 where an element has a bit
  low_half_one : 0 < width → low_half width 1 ≡ 1
  low_half_one wide = mod-eq_of_lt (pow_below 0 width wide)

  -- the high half of 1 is 0
  high_half_one : 0 < width → high_half width 1 ≡ 0
  high_half_one wide =
      ap (λ (x : ℕ). x % 2 ^ width) (div-eq_of_lt (pow_below 0 width wide)) ∙ mod-eq_of_lt (pow_pos width)

  -- the products of the halves of the one with those of an element
  low_product-one : (a0 a1 : ℕ) → a0 < 2 ^ width → low_product 1 0 a0 a1 ≡ a0
  low_product-one a0 a1 fits =
      ap₂ bit_xor (ring.one a0 ∙ mod-eq_of_lt fits) (zero-times width 1 times ring a1) ∙ xor_zero_r a0

  -- the high half of 1 a is that of a
  high_product-one : (a0 a1 : ℕ) → a1 < 2 ^ width → high_product 1 0 a0 a1 ≡ a1
  high_product-one a0 a1 fits =
      ap₂ bit_xor
      (ap₂ bit_xor (ring.one a1 ∙ mod-eq_of_lt fits) (zero-times width 1 times ring a0) ∙ xor_zero_r a1)
      (ap (times t) (zero-times width 1 times ring a1) ∙ times-zero width 1 times ring t)
      ∙ xor_zero_r a1

  -- 1 a = a for an element a
  quadratic_one : 0 < width → (a : ℕ) → quadratic width times t 1 a ≡ a % 2 ^ (width + width)
  quadratic_one wide a =
      quadratic-halves 1 a
      ∙ ap₂ (λ (x y : ℕ). pair width (low_product x y (low_half width a) (high_half width a))
      (high_product x y (low_half width a) (high_half width a))) (low_half_one wide) (high_half_one wide)
      ∙ ap₂ (pair width) (low_product-one _ (high_half width a) (low_half-lt width a))
      (high_product-one (low_half width a) _ (high_half-lt width a))
      ∙ pair-halves width a

  -- the quadratic extension of a ring of w bits is a ring of 2 w bits
  pub quadratic_ring : 0 < width → IsRing (width + width) 1 (quadratic width times t)
  quadratic_ring wide = record {
    below =
        λ a b.
        subst (λ (x : ℕ). x < 2 ^ (width + width)) (sym (quadratic-halves a b))
        (pair-lt width _ _ (low_product-lt _ _ _ _) (high_product-lt _ _ _ _));
    comm = quadratic_comm;
    assoc = quadratic_assoc;
    over_sum = quadratic_over_sum;
    one = quadratic_one wide;
  }
