-- The norm of an element of a quadratic extension is its product with its conjugate, it is 0 only at 0 where the
-- polynomial X² + t X + 1 has no root below, and so the conjugate over the norm is the inverse.
use Rattle.std.proofs.Common.{◌≡◌, ◌≢◌, ℕ, zero, suc, ◌+◌, ◌%◌, ◌^◌, ◌<◌, refl, sym, ◌∙◌, ap, ap₂, arith}
use Rattle.std.specs.Prelude.{bit_xor}
use Rattle.std.proofs.lemmas.Nat.{xor_lt, pow_pos, pow_below}
use native.Mathlib.Nat.{mod-eq_of_lt, mod-lt}
use lib.Bits.{xor_self, xor_zero_r}
use Rattle.field_base.specs.Ring.{IsRing}
use Rattle.field_base.specs.Field.{HasInverses}
use Rattle.field_base.specs.Quadratic.{low_half, high_half, pair, quadratic}
use Rattle.field_base.specs.Norm.{conjugate, norm}
use Rattle.field_base.proofs.RingLemmas.{xor_cancel, times_left_comm, times-zero, times-mod}
use Rattle.field_base.proofs.PowerLemmas.{one-times, times-one}
use Rattle.field_base.proofs.FieldLemmas.{square-zero}
use Rattle.field_base.proofs.QuadraticRing.{low_half-lt, high_half-lt, low_half-pair, high_half-pair, pair-halves, pair-lt, low_product, high_product, quadratic-pair_right, quadratic_ring}
use Rattle.field_base.proofs.QuadraticProducts.{pair-low, quadratic-low, quadratic-low_times}

module _ (width : ℕ) (times : ℕ → ℕ → ℕ) (ring : IsRing width 1 times) (t : ℕ) where
  -- the norm is an element of the ring below
  pub norm-lt : (a : ℕ) → norm width times t a < 2 ^ width
  norm-lt a = xor_lt width _ _ (xor_lt width _ _ (ring.below _ _) (ring.below _ _)) (ring.below _ _)

  -- the halves of a conjugate
  pub conjugate_low-lt : (a : ℕ) → bit_xor (low_half width a) (times t (high_half width a)) < 2 ^ width
  conjugate_low-lt a = xor_lt width _ _ (low_half-lt width a) (ring.below t (high_half width a))

  -- the low half of the conjugate of a0 + a1 X is a0 + t a1
  pub low_half-conjugate : (a : ℕ) → low_half width (conjugate width times t a)
      ≡ bit_xor (low_half width a) (times t (high_half width a))
  low_half-conjugate a = low_half-pair width _ (high_half width a) (conjugate_low-lt a)

  -- its high half is a1
  pub high_half-conjugate : (a : ℕ) → high_half width (conjugate width times t a) ≡ high_half width a
  high_half-conjugate a = high_half-pair width _ (high_half width a) (conjugate_low-lt a) (high_half-lt width a)

  -- ---- an element times its conjugate

  -- the low half of the product with the conjugate is a0² + t a0 a1 + a1²
  conjugate_low : (a0 a1 : ℕ) → low_product width times ring t a0 a1 (bit_xor a0 (times t a1)) a1
      ≡ bit_xor (bit_xor (times a0 a0) (times t (times a0 a1))) (times a1 a1)
  conjugate_low a0 a1 = simp (ring.over_sum, times_left_comm width 1 times ring)

  -- its high half is 0
  conjugate_high : (a0 a1 : ℕ) → high_product width times ring t a0 a1 (bit_xor a0 (times t a1)) a1 ≡ 0
  conjugate_high a0 a1 =
      simp (ring.over_sum, ring.comm, times_left_comm width 1 times ring, xor_self, xor_cancel)

  -- an element times its conjugate is its norm
  pub quadratic-conjugate : (a : ℕ) → quadratic width times t a (conjugate width times t a) ≡ norm width times t a
  quadratic-conjugate a =
      quadratic-pair_right width times ring t a _ _ (conjugate_low-lt a) (high_half-lt width a)
      ∙ ap₂ (pair width) (conjugate_low (low_half width a) (high_half width a))
      (conjugate_high (low_half width a) (high_half width a))
      ∙ pair-low width (norm width times t a)

  -- the conjugate times an element of the ring below, half by half
  scaled_conjugate : (a y : ℕ) → y < 2 ^ width → quadratic width times t y (conjugate width times t a)
      ≡ pair width (times (bit_xor (low_half width a) (times t (high_half width a))) y) (times (high_half width a) y)
  scaled_conjugate a y fits =
      quadratic-low_times width times ring t y (conjugate width times t a) fits
      ∙ ap₂ (λ (x z : ℕ). pair width (times y x) (times y z)) (low_half-conjugate a) (high_half-conjugate a)
      ∙ ap₂ (pair width) (ring.comm y _) (ring.comm y _)

  -- if y is the inverse of the norm, the conjugate times y is the inverse of the element
  inverse_in_range : 0 < width → (a y : ℕ) → y < 2 ^ width → times (norm width times t a) y ≡ 1
      → quadratic width times t a
      (pair width (times (bit_xor (low_half width a) (times t (high_half width a))) y) (times (high_half width a) y))
      ≡ 1
  inverse_in_range wide a y fits inverts =
      ap (quadratic width times t a) (sym (scaled_conjugate a y fits))
      ∙ times_left_comm (width + width) 1 (quadratic width times t) (quadratic_ring width times ring t wide) a y
      (conjugate width times t a)
      ∙ ap (quadratic width times t y) (quadratic-conjugate a)
      ∙ quadratic-low width times ring t y (norm width times t a) fits (norm-lt a)
      ∙ ring.comm y (norm width times t a) ∙ inverts

  -- the conjugate over the norm is the inverse
  pub quadratic-inverse : 0 < width → (a inverse : ℕ) → times (norm width times t a) inverse ≡ 1
      → quadratic width times t a
      (pair width (times (bit_xor (low_half width a) (times t (high_half width a))) inverse)
      (times (high_half width a) inverse))
      ≡ 1
  quadratic-inverse wide a inverse inverts =
      ap (quadratic width times t a)
      (ap₂ (pair width) (sym (times-mod width 1 times ring _ inverse)) (sym (times-mod width 1 times ring _ inverse)))
      ∙ inverse_in_range wide a (inverse % 2 ^ width) (mod-lt inverse (pow_pos width))
      (times-mod width 1 times ring (norm width times t a) inverse ∙ inverts)

  -- ---- only 0 has the norm 0

  -- where u is the inverse of a1, the norm over a1² is the value of the polynomial at a0 / a1
  norm_as_value : (a0 a1 u : ℕ) → 0 < width → times a1 u ≡ 1
      → bit_xor (bit_xor (times (times a0 u) (times a0 u)) (times t (times a0 u))) 1
      ≡ times (times u u) (bit_xor (bit_xor (times a0 a0) (times t (times a0 a1))) (times a1 a1))
  norm_as_value a0 a1 u wide inverts =
      ap₂ bit_xor (ap (bit_xor (times (times a0 u) (times a0 u))) linear) constant
      ∙ simp (ring.over_sum, ring.assoc, ring.comm, times_left_comm width 1 times ring)
    where
      linear : times t (times a0 u) ≡ times (times t (times a0 u)) (times a1 u)
      linear =
          sym (times-one width 1 times ring (times t (times a0 u)) (ring.below t (times a0 u)))
          ∙ ap (times (times t (times a0 u))) (sym inverts)

      constant : 1 ≡ times (times a1 u) (times a1 u)
      constant = sym (ap₂ times inverts inverts ∙ one-times width 1 times ring 1 (pow_below 0 width wide))

  module _ (wide : 0 < width) (inverses : HasInverses width times)
      (no_root : (x : ℕ) → bit_xor (bit_xor (times x x) (times t x)) 1 ≢ 0) where
    norm_of_halves-zero : (a0 a1 : ℕ) → a0 < 2 ^ width → a1 < 2 ^ width
        → bit_xor (bit_xor (times a0 a0) (times t (times a0 a1))) (times a1 a1) ≡ 0 → (a0 ≡ 0) × (a1 ≡ 0)
    norm_of_halves-zero a0 zero low_fits high_fits nothing = (square-zero width times ring inverses a0 low_fits (sym low_square ∙ nothing), refl)
      where
        low_square : bit_xor (bit_xor (times a0 a0) (times t (times a0 0))) (times 0 0) ≡ times a0 a0
        low_square =
            ap₂ bit_xor
            (ap (bit_xor (times a0 a0)) (ap (times t) (times-zero width 1 times ring a0) ∙ times-zero width 1 times ring t)
            ∙ xor_zero_r (times a0 a0))
            (times-zero width 1 times ring 0)
            ∙ xor_zero_r (times a0 a0)
    norm_of_halves-zero a0 (suc a1) low_fits high_fits nothing =
        let inverse = inverses (suc a1) high_fits (λ e. absurd (omega arith)) in
        absurd (no_root (times a0 inverse.0)
        (norm_as_value a0 (suc a1) inverse.0 wide inverse.2
        ∙ ap (times (times inverse.0 inverse.0)) nothing ∙ times-zero width 1 times ring (times inverse.0 inverse.0)))

    pub norm-zero : (a : ℕ) → a < 2 ^ (width + width) → norm width times t a ≡ 0 → a ≡ 0
    norm-zero a fits nothing =
        let halves = norm_of_halves-zero (low_half width a) (high_half width a) (low_half-lt width a) (high_half-lt width a)
        nothing in
        sym (mod-eq_of_lt fits) ∙ sym (pair-halves width a) ∙ ap₂ (pair width) halves.0 halves.1 ∙ pair-low width 0

    -- so every nonzero element of the extension has an inverse
    pub quadratic-inverses : HasInverses (width + width) (quadratic width times t)
    quadratic-inverses a fits nonzero =
        let inverse = inverses (norm width times t a) (norm-lt a) (λ e. nonzero (norm-zero a fits e)) in (
          pair width (times (bit_xor (low_half width a) (times t (high_half width a))) inverse.0)
              (times (high_half width a) inverse.0),
          pair-lt width _ _ (ring.below _ inverse.0) (ring.below _ inverse.0),
          quadratic-inverse wide a inverse.0 inverse.2,
        )
