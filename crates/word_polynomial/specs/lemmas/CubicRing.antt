-- The cubic extension of a ring of w-bit elements by a root y of y³ + y + 1 is a ring of elements of three times the width.
use Rattle.std.proofs.Common.{◌≡◌, ℕ, zero, suc, ◌+◌, ◌%◌, ◌^◌, ◌<◌, refl, sym, ◌∙◌, ap, ap₂, subst, arith}
use Rattle.std.specs.Prelude.{bit_xor}
use Rattle.std.proofs.lemmas.Nat.{xor_comm, xor_lt, pow_pos, pow_below}
use lib.Bits.{xor_assoc, xor_self, xor_zero_r}
use Rattle.field_base.specs.Basis.{sum_below}
use Rattle.word_polynomial.specs.Cubic.{CubicIsRing, cubic, triple}
use Rattle.field_base.specs.Ring.{IsRing}
use Rattle.field_base.specs.Chunks.{chunk}
use Rattle.word_polynomial.specs.lemmas.Triple.{same₃, first-triple, second-triple, third-triple, triple-lt, triple-low, triple_sum, three_sums, triple-chunks}
use Rattle.field_base.proofs.PowerLemmas.{one-times}
use Rattle.field_base.proofs.RingLemmas.{sum_times, times-zero, xor_cancel, xor_left_comm, zero-times}
use Rattle.field_base.proofs.ChunkLists.{chunk-lt, chunk_xor}

-- terms of a sum in any order, of which two equal ones leave nothing
pub ruleset sums = (xor_assoc, xor_comm, xor_left_comm, xor_self, xor_cancel, xor_zero_r)

-- ---- coefficients

module _ (width : ℕ) (times : ℕ → ℕ → ℕ) (ring : IsRing width 1 times) where
  -- ---- the coefficients of a product

  -- the constant term of a product
  abbrev pub product_0 : ℕ → ℕ → ℕ → ℕ → ℕ → ℕ → ℕ
  product_0 a0 a1 a2 b0 b1 b2 = bit_xor (bit_xor (times a0 b0) (times a1 b2)) (times a2 b1)

  -- its coefficient of y
  abbrev pub product_1 : ℕ → ℕ → ℕ → ℕ → ℕ → ℕ → ℕ
  product_1 a0 a1 a2 b0 b1 b2 =
      bit_xor (bit_xor (times a0 b1) (bit_xor (times a1 b0) (times a1 b2))) (bit_xor (times a2 b1) (times a2 b2))

  -- its coefficient of y²
  abbrev pub product_2 : ℕ → ℕ → ℕ → ℕ → ℕ → ℕ → ℕ
  product_2 a0 a1 a2 b0 b1 b2 =
      bit_xor (bit_xor (times a0 b2) (times a1 b1)) (bit_xor (times a2 b0) (times a2 b2))

  -- the product by its coefficients
  abbrev pub product_of_three : ℕ → ℕ → ℕ → ℕ → ℕ → ℕ → ℕ
  product_of_three a0 a1 a2 b0 b1 b2 =
      triple width (product_0 a0 a1 a2 b0 b1 b2) (product_1 a0 a1 a2 b0 b1 b2) (product_2 a0 a1 a2 b0 b1 b2)

  -- the constant term is an element of the ring
  pub product_0-lt : (a0 a1 a2 b0 b1 b2 : ℕ) → product_0 a0 a1 a2 b0 b1 b2 < 2 ^ width
  product_0-lt a0 a1 a2 b0 b1 b2 =
      xor_lt width _ _ (xor_lt width _ _ (ring.below a0 b0) (ring.below a1 b2)) (ring.below a2 b1)

  -- the coefficient of y is an element of the ring
  pub product_1-lt : (a0 a1 a2 b0 b1 b2 : ℕ) → product_1 a0 a1 a2 b0 b1 b2 < 2 ^ width
  product_1-lt a0 a1 a2 b0 b1 b2 =
      xor_lt width _ _
      (xor_lt width _ _ (ring.below a0 b1) (xor_lt width _ _ (ring.below a1 b0) (ring.below a1 b2)))
      (xor_lt width _ _ (ring.below a2 b1) (ring.below a2 b2))

  -- the coefficient of y² is an element of the ring
  pub product_2-lt : (a0 a1 a2 b0 b1 b2 : ℕ) → product_2 a0 a1 a2 b0 b1 b2 < 2 ^ width
  product_2-lt a0 a1 a2 b0 b1 b2 =
      xor_lt width _ _ (xor_lt width _ _ (ring.below a0 b2) (ring.below a1 b1))
      (xor_lt width _ _ (ring.below a2 b0) (ring.below a2 b2))

  -- the terms of one coefficient of the left operand
  terms_0 : (t0 t1 t2 : ℕ) → t0 < 2 ^ width → t1 < 2 ^ width → t2 < 2 ^ width
      → bit_xor (bit_xor (bit_xor 0 (triple width t0 0 0)) (triple width 0 t1 0)) (triple width 0 0 t2) ≡ triple width t0 t1 t2
  terms_0 t0 t1 t2 fits0 fits1 fits2 =
      three_sums width t0 0 0 0 t1 0 0 0 t2 fits0 (pow_pos width) (pow_pos width) (pow_pos width) fits1 (pow_pos width)
      ∙ same₃ (triple width) (xor_zero_r _ ∙ xor_zero_r t0) (xor_zero_r t1) refl

  -- those of the coefficient of y, where y³ = y + 1
  terms_1 : (t0 t1 t2 : ℕ) → t0 < 2 ^ width → t1 < 2 ^ width → t2 < 2 ^ width
      → bit_xor (bit_xor (bit_xor 0 (triple width 0 t0 0)) (triple width 0 0 t1)) (triple width t2 t2 0)
      ≡ triple width t2 (bit_xor t0 t2) t1
  terms_1 t0 t1 t2 fits0 fits1 fits2 =
      three_sums width 0 t0 0 0 0 t1 t2 t2 0 (pow_pos width) (pow_pos width) fits2 fits0 (pow_pos width) fits2
      ∙ same₃ (triple width) refl (ap (λ (x : ℕ). bit_xor x t2) (xor_zero_r t0)) (xor_zero_r t1)

  -- those of the coefficient of y², where y⁴ = y² + y as well
  terms_2 : (t0 t1 t2 : ℕ) → t0 < 2 ^ width → t1 < 2 ^ width → t2 < 2 ^ width
      → bit_xor (bit_xor (bit_xor 0 (triple width 0 0 t0)) (triple width t1 t1 0)) (triple width 0 t2 t2)
      ≡ triple width t1 (bit_xor t1 t2) (bit_xor t0 t2)
  terms_2 t0 t1 t2 fits0 fits1 fits2 =
      three_sums width 0 0 t0 t1 t1 0 0 t2 t2 (pow_pos width) fits1 (pow_pos width) (pow_pos width) fits1 fits2
      ∙ same₃ (triple width) (xor_zero_r t1) refl (ap (λ (x : ℕ). bit_xor x t2) (xor_zero_r t0))

  -- the sum of the nine terms a_i b_j y^(i + j) is the product by its coefficients
  nine_terms : (a0 a1 a2 b0 b1 b2 : ℕ)
      → bit_xor
      (bit_xor
      (bit_xor 0
      (bit_xor (bit_xor (bit_xor 0 (triple width (times a0 b0) 0 0)) (triple width 0 (times a0 b1) 0)) (triple width 0 0 (times a0 b2))))
      (bit_xor (bit_xor (bit_xor 0 (triple width 0 (times a1 b0) 0)) (triple width 0 0 (times a1 b1))) (triple width (times a1 b2) (times a1 b2) 0)))
      (bit_xor (bit_xor (bit_xor 0 (triple width 0 0 (times a2 b0))) (triple width (times a2 b1) (times a2 b1) 0)) (triple width 0 (times a2 b2) (times a2 b2)))
      ≡ product_of_three a0 a1 a2 b0 b1 b2
  nine_terms a0 a1 a2 b0 b1 b2 =
      same₃ (λ x y z. bit_xor (bit_xor (bit_xor 0 x) y) z)
      (terms_0 _ _ _ (ring.below a0 b0) (ring.below a0 b1) (ring.below a0 b2))
      (terms_1 _ _ _ (ring.below a1 b0) (ring.below a1 b1) (ring.below a1 b2))
      (terms_2 _ _ _ (ring.below a2 b0) (ring.below a2 b1) (ring.below a2 b2))
      ∙ three_sums width _ _ _ _ _ _ _ _ _ (ring.below a0 b0) (ring.below a1 b2) (ring.below a2 b1)
      (ring.below a0 b1) (xor_lt width _ _ (ring.below a1 b0) (ring.below a1 b2))
      (xor_lt width _ _ (ring.below a2 b1) (ring.below a2 b2))

  -- the product of two elements by their coefficients
  pub cubic-chunks : (a b : ℕ) → cubic width times a b
      ≡ product_of_three (chunk width 0 a) (chunk width 1 a) (chunk width 2 a) (chunk width 0 b) (chunk width 1 b) (chunk width 2 b)
  unfolding cubic sum_below
  cubic-chunks a b =
      nine_terms (chunk width 0 a) (chunk width 1 a) (chunk width 2 a) (chunk width 0 b) (chunk width 1 b) (chunk width 2 b)

  -- the product with coefficients given on the left
  pub cubic-triple_left : (a0 a1 a2 b : ℕ) → a0 < 2 ^ width → a1 < 2 ^ width → a2 < 2 ^ width
      → cubic width times (triple width a0 a1 a2) b
      ≡ product_of_three a0 a1 a2 (chunk width 0 b) (chunk width 1 b) (chunk width 2 b)
  cubic-triple_left a0 a1 a2 b fits0 fits1 fits2 =
      cubic-chunks (triple width a0 a1 a2) b
      ∙ same₃ (λ x y z. product_of_three x y z (chunk width 0 b) (chunk width 1 b) (chunk width 2 b))
      (first-triple width a0 a1 a2 fits0) (second-triple width a0 a1 a2 fits0 fits1) (third-triple width a0 a1 a2 fits0 fits1 fits2)

  -- the product with coefficients given on the right
  pub cubic-triple_right : (a b0 b1 b2 : ℕ) → b0 < 2 ^ width → b1 < 2 ^ width → b2 < 2 ^ width
      → cubic width times a (triple width b0 b1 b2)
      ≡ product_of_three (chunk width 0 a) (chunk width 1 a) (chunk width 2 a) b0 b1 b2
  cubic-triple_right a b0 b1 b2 fits0 fits1 fits2 =
      cubic-chunks a (triple width b0 b1 b2)
      ∙ same₃ (λ x y z. product_of_three (chunk width 0 a) (chunk width 1 a) (chunk width 2 a) x y z)
      (first-triple width b0 b1 b2 fits0) (second-triple width b0 b1 b2 fits0 fits1) (third-triple width b0 b1 b2 fits0 fits1 fits2)

  -- the product of two elements with coefficients given
  pub cubic-triples : (a0 a1 a2 b0 b1 b2 : ℕ) → a0 < 2 ^ width → a1 < 2 ^ width → a2 < 2 ^ width
      → b0 < 2 ^ width → b1 < 2 ^ width → b2 < 2 ^ width
      → cubic width times (triple width a0 a1 a2) (triple width b0 b1 b2) ≡ product_of_three a0 a1 a2 b0 b1 b2
  cubic-triples a0 a1 a2 b0 b1 b2 a_fits0 a_fits1 a_fits2 fits0 fits1 fits2 =
      cubic-triple_left a0 a1 a2 (triple width b0 b1 b2) a_fits0 a_fits1 a_fits2
      ∙ same₃ (product_of_three a0 a1 a2)
      (first-triple width b0 b1 b2 fits0) (second-triple width b0 b1 b2 fits0 fits1) (third-triple width b0 b1 b2 fits0 fits1 fits2)

  -- ---- the laws

  -- a product is an element
  cubic_below : (a b : ℕ) → cubic width times a b < 2 ^ (width + width + width)
  cubic_below a b =
      subst (λ (x : ℕ). x < 2 ^ (width + width + width)) (sym (cubic-chunks a b))
      (triple-lt width _ _ _ (product_0-lt _ _ _ _ _ _) (product_1-lt _ _ _ _ _ _) (product_2-lt _ _ _ _ _ _))

  -- a b = b a, by the coefficients
  products-comm : (a0 a1 a2 b0 b1 b2 : ℕ) → product_of_three a0 a1 a2 b0 b1 b2 ≡ product_of_three b0 b1 b2 a0 a1 a2
  products-comm a0 a1 a2 b0 b1 b2 =
      same₃ (triple width) (simp (ring.comm, sums)) (simp (ring.comm, sums)) (simp (ring.comm, sums))

  -- a b = b a
  cubic_comm : (a b : ℕ) → cubic width times a b ≡ cubic width times b a
  cubic_comm a b =
      cubic-chunks a b ∙ products-comm _ _ _ _ _ _ ∙ sym (cubic-chunks b a)

  -- (a b) c = a (b c), by the coefficients
  products-assoc : (a0 a1 a2 b0 b1 b2 c0 c1 c2 : ℕ)
      → product_of_three (product_0 a0 a1 a2 b0 b1 b2) (product_1 a0 a1 a2 b0 b1 b2) (product_2 a0 a1 a2 b0 b1 b2) c0 c1 c2
      ≡ product_of_three a0 a1 a2 (product_0 b0 b1 b2 c0 c1 c2) (product_1 b0 b1 b2 c0 c1 c2) (product_2 b0 b1 b2 c0 c1 c2)
  products-assoc a0 a1 a2 b0 b1 b2 c0 c1 c2 =
      same₃ (triple width)
      (simp (sum_times width 1 times ring, ring.over_sum, ring.assoc, sums))
      (simp (sum_times width 1 times ring, ring.over_sum, ring.assoc, sums))
      (simp (sum_times width 1 times ring, ring.over_sum, ring.assoc, sums))

  -- (a b) c = a (b c)
  cubic_assoc : (a b c : ℕ) → cubic width times (cubic width times a b) c ≡ cubic width times a (cubic width times b c)
  cubic_assoc a b c =
      ap (λ (x : ℕ). cubic width times x c) (cubic-chunks a b)
      ∙ cubic-triple_left _ _ _ c (product_0-lt _ _ _ _ _ _) (product_1-lt _ _ _ _ _ _) (product_2-lt _ _ _ _ _ _)
      ∙ products-assoc _ _ _ _ _ _ _ _ _
      ∙ sym (cubic-triple_right a _ _ _ (product_0-lt _ _ _ _ _ _) (product_1-lt _ _ _ _ _ _) (product_2-lt _ _ _ _ _ _))
      ∙ ap (λ (x : ℕ). cubic width times a x) (sym (cubic-chunks b c))

  -- a (b + c) = a b + a c, by the coefficients
  products-over_sum : (a0 a1 a2 b0 b1 b2 c0 c1 c2 : ℕ)
      → product_of_three a0 a1 a2 (bit_xor b0 c0) (bit_xor b1 c1) (bit_xor b2 c2)
      ≡ triple width (bit_xor (product_0 a0 a1 a2 b0 b1 b2) (product_0 a0 a1 a2 c0 c1 c2))
      (bit_xor (product_1 a0 a1 a2 b0 b1 b2) (product_1 a0 a1 a2 c0 c1 c2))
      (bit_xor (product_2 a0 a1 a2 b0 b1 b2) (product_2 a0 a1 a2 c0 c1 c2))
  products-over_sum a0 a1 a2 b0 b1 b2 c0 c1 c2 =
      same₃ (triple width) (simp (ring.over_sum, sums)) (simp (ring.over_sum, sums)) (simp (ring.over_sum, sums))

  -- a (b + c) = a b + a c
  cubic_over_sum : (a b c : ℕ) → cubic width times a (bit_xor b c)
      ≡ bit_xor (cubic width times a b) (cubic width times a c)
  cubic_over_sum a b c =
      cubic-chunks a (bit_xor b c)
      ∙ same₃ (product_of_three (chunk width 0 a) (chunk width 1 a) (chunk width 2 a))
      (chunk_xor width 0 b c) (chunk_xor width 1 b c) (chunk_xor width 2 b c)
      ∙ products-over_sum _ _ _ _ _ _ _ _ _
      ∙ sym (triple_sum width _ _ _ _ _ _ (product_0-lt _ _ _ _ _ _) (product_0-lt _ _ _ _ _ _)
      (product_1-lt _ _ _ _ _ _) (product_1-lt _ _ _ _ _ _))
      ∙ sym (ap₂ bit_xor (cubic-chunks a b) (cubic-chunks a c))

  -- an element c of the ring below multiplies coefficient by coefficient
  pub cubic-scales : (c a0 a1 a2 : ℕ) → c < 2 ^ width → a0 < 2 ^ width → a1 < 2 ^ width → a2 < 2 ^ width
      → cubic width times (triple width c 0 0) (triple width a0 a1 a2) ≡ triple width (times c a0) (times c a1) (times c a2)
  cubic-scales c a0 a1 a2 fits fits0 fits1 fits2 =
      cubic-triples c 0 0 a0 a1 a2 fits (pow_pos width) (pow_pos width) fits0 fits1 fits2
      ∙ same₃ (triple width) (simp (zero-times width 1 times ring, xor_zero_r)) (simp (zero-times width 1 times ring, xor_zero_r))
      (simp (zero-times width 1 times ring, xor_zero_r))

  -- whatever number the other operand is
  cubic-scale : (c a : ℕ) → c < 2 ^ width → cubic width times c a
      ≡ triple width (times c (chunk width 0 a)) (times c (chunk width 1 a)) (times c (chunk width 2 a))
  cubic-scale c a fits =
      ap (λ (x : ℕ). cubic width times x a) (sym (triple-low width c))
      ∙ cubic-triple_left c 0 0 a fits (pow_pos width) (pow_pos width)
      ∙ same₃ (triple width) (simp (zero-times width 1 times ring, xor_zero_r)) (simp (zero-times width 1 times ring, xor_zero_r))
      (simp (zero-times width 1 times ring, xor_zero_r))

  -- a product by an element c of the ring has the coefficients times c
  pub chunk-cubic : (i c a : ℕ) → i < 3 → c < 2 ^ width → chunk width i (cubic width times c a) ≡ times c (chunk width i a)
  chunk-cubic zero c a few fits =
      ap (chunk width 0) (cubic-scale c a fits) ∙ first-triple width _ _ _ (ring.below c (chunk width 0 a))
  chunk-cubic (suc zero) c a few fits =
      ap (chunk width 1) (cubic-scale c a fits)
      ∙ second-triple width _ _ _ (ring.below c (chunk width 0 a)) (ring.below c (chunk width 1 a))
  chunk-cubic (suc (suc zero)) c a few fits =
      ap (chunk width 2) (cubic-scale c a fits)
      ∙ third-triple width _ _ _ (ring.below c (chunk width 0 a)) (ring.below c (chunk width 1 a)) (ring.below c (chunk width 2 a))
  chunk-cubic (suc (suc (suc i))) c a few fits = absurd (omega (arith, few))

  -- 1 times an element has its constant term
  one_0 : (x0 x1 x2 : ℕ) → x0 < 2 ^ width → product_0 1 0 0 x0 x1 x2 ≡ x0
  one_0 x0 x1 x2 fits =
      let none = zero-times width 1 times ring in
      ap₂ bit_xor (ap₂ bit_xor (one-times width 1 times ring x0 fits) (none x2)) (none x1)
      ∙ xor_zero_r (bit_xor x0 0) ∙ xor_zero_r x0

  -- its coefficient of y
  one_1 : (x0 x1 x2 : ℕ) → x1 < 2 ^ width → product_1 1 0 0 x0 x1 x2 ≡ x1
  one_1 x0 x1 x2 fits =
      let none = zero-times width 1 times ring in
      ap₂ bit_xor (ap₂ bit_xor (one-times width 1 times ring x1 fits) (ap₂ bit_xor (none x0) (none x2))) (ap₂ bit_xor (none x1) (none x2))
      ∙ xor_zero_r (bit_xor x1 0) ∙ xor_zero_r x1

  -- and its coefficient of y²
  one_2 : (x0 x1 x2 : ℕ) → x2 < 2 ^ width → product_2 1 0 0 x0 x1 x2 ≡ x2
  one_2 x0 x1 x2 fits =
      let none = zero-times width 1 times ring in
      ap₂ bit_xor (ap₂ bit_xor (one-times width 1 times ring x2 fits) (none x1)) (ap₂ bit_xor (none x0) (none x2))
      ∙ xor_zero_r (bit_xor x2 0) ∙ xor_zero_r x2

  -- 1 a = a for an element a
  cubic_one : 0 < width → (a : ℕ) → cubic width times 1 a ≡ a % 2 ^ (width + width + width)
  cubic_one wide a =
      let low = chunk-lt width in
      ap (λ (x : ℕ). cubic width times x a) (sym (triple-low width 1))
      ∙ cubic-triple_left 1 0 0 a (pow_below 0 width wide) (pow_pos width) (pow_pos width)
      ∙ same₃ (triple width) (one_0 (chunk width 0 a) (chunk width 1 a) (chunk width 2 a) (low 0 a))
      (one_1 (chunk width 0 a) (chunk width 1 a) (chunk width 2 a) (low 1 a))
      (one_2 (chunk width 0 a) (chunk width 1 a) (chunk width 2 a) (low 2 a))
      ∙ triple-chunks width a

  -- so that of elements of the ring below the product is that of the ring below
  pub cubic-low : (a b : ℕ) → a < 2 ^ width → b < 2 ^ width → times a b ≡ cubic width times a b
  cubic-low a b a_fits b_fits =
      sym (ap₂ (cubic width times) (sym (triple-low width a)) (sym (triple-low width b))
      ∙ cubic-scales a b 0 0 a_fits b_fits (pow_pos width) (pow_pos width)
      ∙ same₃ (triple width) refl (times-zero width 1 times ring a) (times-zero width 1 times ring a)
      ∙ triple-low width (times a b))

  -- the cubic extension of a ring of w bits is a ring of 3 w bits
  pub cubic_ring : 0 < width → IsRing (width + width + width) 1 (cubic width times)
  cubic_ring wide = record {
    below = cubic_below;
    comm = cubic_comm;
    assoc = cubic_assoc;
    over_sum = cubic_over_sum;
    one = cubic_one wide;
  }

-- the cubic extension of every ring is a ring
pub cubic_is_ring : CubicIsRing
cubic_is_ring width times wide ring = cubic_ring width times ring wide
