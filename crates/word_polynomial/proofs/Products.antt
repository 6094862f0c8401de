-- Products, squares, roots and inverses of elements of three coefficients, as the code computes them, over any ring.
use Rattle.std.proofs.Common.{◌≡◌, ℕ, ◌^◌, ◌<◌, ◌∙◌, ap₂}
use Rattle.std.specs.Prelude.{bit_xor}
use Rattle.std.proofs.lemmas.Nat.{xor_comm}
use lib.Bits.{xor_assoc, xor_self, xor_zero_r}
use Rattle.word_polynomial.specs.Cubic.{cubic, triple}
use Rattle.field_base.specs.Ring.{IsRing}
use Rattle.word_polynomial.specs.lemmas.CubicField.{adjugate_0, adjugate_1, adjugate_2, cubic-square}
use Rattle.word_polynomial.specs.lemmas.CubicRing.{cubic-triples}
use Rattle.word_polynomial.specs.lemmas.Triple.{same₃}
use Rattle.field_base.proofs.RingLemmas.{sum_times, times-zero, xor_cancel, xor_left_comm}

module _ (width : ℕ) (times : ℕ → ℕ → ℕ) (ring : IsRing width 1 times) where
  -- Karatsuba's rule: the coefficients from six products
  pub karatsuba : (a0 a1 a2 b0 b1 b2 : ℕ) → a0 < 2 ^ width → a1 < 2 ^ width → a2 < 2 ^ width
      → b0 < 2 ^ width → b1 < 2 ^ width → b2 < 2 ^ width
      → cubic width times (triple width a0 a1 a2) (triple width b0 b1 b2)
      ≡ triple width
      (bit_xor (times a0 b0) (bit_xor (bit_xor (times (bit_xor a1 a2) (bit_xor b1 b2)) (times a1 b1)) (times a2 b2)))
      (bit_xor (bit_xor (bit_xor (bit_xor (times (bit_xor a0 a1) (bit_xor b0 b1)) (times a0 b0)) (times a1 b1))
      (bit_xor (bit_xor (times (bit_xor a1 a2) (bit_xor b1 b2)) (times a1 b1)) (times a2 b2))) (times a2 b2))
      (bit_xor (bit_xor (times (bit_xor a0 a2) (bit_xor b0 b2)) (times a0 b0)) (times a1 b1))
  karatsuba a0 a1 a2 b0 b1 b2 a_fits0 a_fits1 a_fits2 b_fits0 b_fits1 b_fits2 =
      cubic-triples width times ring a0 a1 a2 b0 b1 b2 a_fits0 a_fits1 a_fits2 b_fits0 b_fits1 b_fits2
      ∙ same₃ (triple width)
      (simp (sum_times width 1 times ring, ring.over_sum, xor_assoc, xor_comm, xor_left_comm, xor_self, xor_cancel, xor_zero_r))
      (simp (sum_times width 1 times ring, ring.over_sum, xor_assoc, xor_comm, xor_left_comm, xor_self, xor_cancel, xor_zero_r))
      (simp (sum_times width 1 times ring, ring.over_sum, xor_assoc, xor_comm, xor_left_comm, xor_self, xor_cancel, xor_zero_r))

  -- the root: its coefficients are the roots of c0, of c1 + c2 and of c1
  pub roots_square : (r0 r1 r2 c0 c1 c2 : ℕ) → r0 < 2 ^ width → r1 < 2 ^ width → r2 < 2 ^ width
      → times r0 r0 ≡ c0 → times r1 r1 ≡ bit_xor c1 c2 → times r2 r2 ≡ c1
      → cubic width times (triple width r0 r1 r2) (triple width r0 r1 r2) ≡ triple width c0 c1 c2
  roots_square r0 r1 r2 c0 c1 c2 fits0 fits1 fits2 first second third =
      cubic-square width times ring r0 r1 r2 fits0 fits1 fits2
      ∙ same₃ (triple width) first third
      (ap₂ bit_xor second third ∙ xor_comm (bit_xor c1 c2) c1 ∙ xor_cancel c1 c2)

  -- the multiple of the adjugate of 0 is 0
  pub adjugate_of_zero : (m a0 a1 a2 : ℕ) → a0 ≡ 0 → a1 ≡ 0 → a2 ≡ 0
      → triple width (times m (adjugate_0 width times ring a0 a1 a2)) (times m (adjugate_1 width times ring a0 a1 a2))
      (times m (adjugate_2 width times ring a0 a1 a2)) ≡ triple width 0 0 0
  adjugate_of_zero m a0 a1 a2 zero0 zero1 zero2 =
      same₃ (λ x y z. triple width (times m (adjugate_0 width times ring x y z)) (times m (adjugate_1 width times ring x y z))
      (times m (adjugate_2 width times ring x y z))) zero0 zero1 zero2
      ∙ same₃ (triple width) (simp (times-zero width 1 times ring, xor_zero_r)) (simp (times-zero width 1 times ring, xor_zero_r))
      (simp (times-zero width 1 times ring, xor_zero_r))
