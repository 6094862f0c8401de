-- A field whose bits leave 1 modulo 3 has no root of y³ + y + 1, so that its cubic extension by such a root y is a field. Frobenius's
-- map takes y to y² and y² to y + y², and has the order 3.
use Rattle.std.proofs.Common.{◌≡◌, ◌≢◌, ℕ, zero, suc, ◌+◌, ◌*◌, ◌/◌, ◌%◌, ◌^◌, ◌<◌, inl, inr, refl, sym, ◌∙◌, ap, ap₂, arith}
use Rattle.std.specs.Prelude.{bit_xor}
use Rattle.std.proofs.lemmas.Nat.{xor_comm, xor_lt, pow_pos, pow_below}
use native.Mathlib.Nat.{mod-eq_of_lt}
use lib.Bits.{xor_assoc, xor_self, xor_zero_r}
use Rattle.word_polynomial.specs.Cubic.{CubicFrobenius, CubicIsField, CubicIsRing, NoFieldHasACubicRoot, cubic, triple}
use Rattle.field_base.specs.Field.{HasInverses, IsField}
use Rattle.field_base.specs.Powers.{repeated_square}
use Rattle.field_base.specs.Ring.{IsRing}
use Rattle.field_base.specs.Chunks.{chunk}
use Rattle.word_polynomial.specs.lemmas.CubicRing.{cubic_is_ring, cubic_ring, cubic-scales, cubic-triples, product_0, product_of_three, sums}
use Rattle.word_polynomial.specs.lemmas.Triple.{same₃, second-triple, third-triple, triple-chunks, triple-low, triple-lt}
use Rattle.field_base.proofs.FieldLemmas.{divisor-zero, field_frobenius, no_zero_divisors}
use Rattle.field_base.proofs.PowerLemmas.{one-times, square_xor, repeated_square-add, repeated_square-lt, repeated_square-mod, repeated_square-none, repeated_square_more, times-one}
use Rattle.field_base.proofs.RingLemmas.{sum_times, times-zero, times_left_comm, xor_cancel, xor_nothing, zero-times}
use Rattle.field_base.proofs.ChunkLists.{chunk-lt}

-- ---- the polynomial has no root

module _ (width : ℕ) (times : ℕ → ℕ → ℕ) (field : IsField width times) where
  -- a root returns after three squarings
  root_cubed : (x : ℕ) → bit_xor (bit_xor (times x (times x x)) x) 1 ≡ 0 → times x (times x x) ≡ bit_xor x 1
  root_cubed x root =
      let one : bit_xor (times x (times x x)) x ≡ 1 = xor_nothing (bit_xor (times x (times x x)) x) 1 root in
      sym (xor_cancel x (times x (times x x))) ∙ ap (bit_xor x) (xor_comm x (times x (times x x)) ∙ one)

  -- a root x of y³ + y + 1 has x⁴ = x² + x
  root_fourth : 0 < width → (x : ℕ) → x < 2 ^ width → times x (times x x) ≡ bit_xor x 1
      → times (times x x) (times x x) ≡ bit_xor (times x x) x
  root_fourth wide x fits cubed =
      field.ring.assoc x x (times x x) ∙ ap (times x) cubed ∙ field.ring.over_sum x x 1
      ∙ ap (bit_xor (times x x)) (times-one width 1 times field.ring x fits)

  -- and three squarings return it: x⁸ = x
  root_returns : 0 < width → (x : ℕ) → x < 2 ^ width → times x (times x x) ≡ bit_xor x 1 → repeated_square 1 times 3 x ≡ x
  unfolding repeated_square
  root_returns wide x fits cubed =
      let fourth = root_fourth wide x fits cubed in
      let none : times 1 x ≡ x = one-times width 1 times field.ring x fits in
      ap (λ (z : ℕ). times (times (times z z) (times z z)) (times (times z z) (times z z))) none
      ∙ ap (λ (z : ℕ). times z z) fourth ∙ square_xor width 1 times field.ring (times x x) x
      ∙ ap (λ (z : ℕ). bit_xor z (times x x)) fourth ∙ ap (λ (z : ℕ). bit_xor z (times x x)) (xor_comm (times x x) x)
      ∙ xor_assoc x (times x x) (times x x) ∙ ap (bit_xor x) (xor_self (times x x)) ∙ xor_zero_r x

  -- so every multiple of three squarings returns it
  root_rounds : (x : ℕ) → x < 2 ^ width → repeated_square 1 times 3 x ≡ x → (n : ℕ) → repeated_square 1 times (n * 3) x ≡ x
  root_rounds x fits returns zero = repeated_square-none width 1 times field.ring x fits
  root_rounds x fits returns (suc n) =
      let next : suc n * 3 ≡ 3 + n * 3 = omega arith in
      ap (λ (k : ℕ). repeated_square 1 times k x) next ∙ repeated_square-add width 1 times field.ring 3 (n * 3) x
      ∙ ap (repeated_square 1 times 3) (root_rounds x fits returns n) ∙ returns

  -- but with n squarings for n ≡ 1 (mod 3) an element of a field of n bits returns, so a root would be x = x², which 0 and 1 are not
  pub no_cubic_root : 0 < width → width % 3 ≡ 1 → (x : ℕ) → x < 2 ^ width
      → bit_xor (bit_xor (times x (times x x)) x) 1 ≢ 0
  no_cubic_root wide leaves x fits root =
      let cubed = root_cubed x root in
      let rounds = root_rounds x fits (root_returns wide x fits cubed) (width / 3) in
      let count : width ≡ width / 3 * 3 + 1 = omega (arith, leaves) in
      let square : times x x ≡ x =
      sym (ap (λ (k : ℕ). repeated_square 1 times k x) count ∙ repeated_square_more width 1 times field.ring (width / 3 * 3) x
      ∙ ap (λ (z : ℕ). times z z) rounds)
      ∙ field_frobenius width times field x fits in
      let same : x ≡ bit_xor x 1 = sym (ap (times x) square ∙ square) ∙ cubed in
      let one : 0 ≡ 1 = sym (xor_self x) ∙ ap (bit_xor x) same ∙ xor_cancel x 1 in
      absurd (omega (arith, one))

-- no field GF(2^n) with n ≡ 1 (mod 3) has a root of y³ + y + 1
pub no_field_has_a_cubic_root : NoFieldHasACubicRoot
no_field_has_a_cubic_root width times field wide leaves x fits root = no_cubic_root width times field wide leaves x fits root

-- ---- the adjugate of an element, its product with which is its norm

module _ (width : ℕ) (times : ℕ → ℕ → ℕ) (ring : IsRing width 1 times) where
  -- the coefficients of the adjugate of a0 + a1 y + a2 y²
  abbrev pub adjugate_0 : ℕ → ℕ → ℕ → ℕ
  adjugate_0 a0 a1 a2 = bit_xor (bit_xor (times a0 a0) (times a1 a1)) (bit_xor (times a2 a2) (times a1 a2))

  -- its coefficient of y
  abbrev pub adjugate_1 : ℕ → ℕ → ℕ → ℕ
  adjugate_1 a0 a1 a2 = bit_xor (times a0 a1) (times a2 a2)

  -- its coefficient of y²
  abbrev pub adjugate_2 : ℕ → ℕ → ℕ → ℕ
  adjugate_2 a0 a1 a2 = bit_xor (bit_xor (times a1 a1) (times a2 a2)) (times a0 a2)

  -- the norm: the constant term of the product with the adjugate
  abbrev pub cubic_norm : ℕ → ℕ → ℕ → ℕ
  cubic_norm a0 a1 a2 =
      product_0 width times ring a0 a1 a2 (adjugate_0 a0 a1 a2) (adjugate_1 a0 a1 a2) (adjugate_2 a0 a1 a2)

  -- the constant term of the adjugate is an element of the ring below
  pub adjugate_0-lt : (a0 a1 a2 : ℕ) → adjugate_0 a0 a1 a2 < 2 ^ width
  adjugate_0-lt a0 a1 a2 =
      xor_lt width _ _ (xor_lt width _ _ (ring.below a0 a0) (ring.below a1 a1)) (xor_lt width _ _ (ring.below a2 a2) (ring.below a1 a2))

  -- the coefficient of y is an element of the ring below
  pub adjugate_1-lt : (a0 a1 a2 : ℕ) → adjugate_1 a0 a1 a2 < 2 ^ width
  adjugate_1-lt a0 a1 a2 = xor_lt width _ _ (ring.below a0 a1) (ring.below a2 a2)

  -- the coefficient of y² is an element of the ring below
  pub adjugate_2-lt : (a0 a1 a2 : ℕ) → adjugate_2 a0 a1 a2 < 2 ^ width
  adjugate_2-lt a0 a1 a2 = xor_lt width _ _ (xor_lt width _ _ (ring.below a1 a1) (ring.below a2 a2)) (ring.below a0 a2)

  -- the product with the adjugate has only a constant term, the norm
  norm_alone : (a0 a1 a2 : ℕ)
      → product_of_three width times ring a0 a1 a2 (adjugate_0 a0 a1 a2) (adjugate_1 a0 a1 a2) (adjugate_2 a0 a1 a2)
      ≡ triple width (cubic_norm a0 a1 a2) 0 0
  norm_alone a0 a1 a2 =
      same₃ (triple width) refl
      (simp (ring.over_sum, ring.comm, times_left_comm width 1 times ring, sums))
      (simp (ring.over_sum, ring.comm, times_left_comm width 1 times ring, sums))

  -- an element times its adjugate is its norm
  pub times_adjugate : (a0 a1 a2 : ℕ) → a0 < 2 ^ width → a1 < 2 ^ width → a2 < 2 ^ width
      → cubic width times (triple width a0 a1 a2) (triple width (adjugate_0 a0 a1 a2) (adjugate_1 a0 a1 a2) (adjugate_2 a0 a1 a2))
      ≡ triple width (cubic_norm a0 a1 a2) 0 0
  times_adjugate a0 a1 a2 fits0 fits1 fits2 =
      cubic-triples width times ring a0 a1 a2 _ _ _ fits0 fits1 fits2 (adjugate_0-lt a0 a1 a2) (adjugate_1-lt a0 a1 a2)
      (adjugate_2-lt a0 a1 a2)
      ∙ norm_alone a0 a1 a2

  -- the norm is an element of the ring below
  pub norm-lt : (a0 a1 a2 : ℕ) → cubic_norm a0 a1 a2 < 2 ^ width
  norm-lt a0 a1 a2 =
      xor_lt width _ _ (xor_lt width _ _ (ring.below a0 _) (ring.below a1 _)) (ring.below a2 _)

  -- the product with a1 + a2 y has no term in y²
  linear_multiple : (a0 a1 a2 : ℕ) → a0 < 2 ^ width → a1 < 2 ^ width → a2 < 2 ^ width
      → cubic width times (triple width a0 a1 a2) (triple width a1 a2 0)
      ≡ triple width (adjugate_1 a0 a1 a2) (adjugate_2 a0 a1 a2) 0
  linear_multiple a0 a1 a2 fits0 fits1 fits2 =
      cubic-triples width times ring a0 a1 a2 a1 a2 0 fits0 fits1 fits2 fits1 fits2 (pow_pos width)
      ∙ same₃ (triple width)
      (simp (times-zero width 1 times ring, xor_zero_r))
      (simp (times-zero width 1 times ring, ring.comm, sums)) (simp (times-zero width 1 times ring, ring.comm, sums))

  -- a multiple of the adjugate by the inverse of the norm is the inverse
  pub scaled_adjugate : 0 < width → (a0 a1 a2 m : ℕ) → a0 < 2 ^ width → a1 < 2 ^ width → a2 < 2 ^ width → m < 2 ^ width
      → times (cubic_norm a0 a1 a2) m ≡ 1
      → cubic width times (triple width a0 a1 a2)
      (triple width (times m (adjugate_0 a0 a1 a2)) (times m (adjugate_1 a0 a1 a2)) (times m (adjugate_2 a0 a1 a2))) ≡ 1
  scaled_adjugate wide a0 a1 a2 m fits0 fits1 fits2 m_fits inverts =
      let whole = cubic_ring width times ring wide in
      let adjugate = triple width (adjugate_0 a0 a1 a2) (adjugate_1 a0 a1 a2) (adjugate_2 a0 a1 a2) in
      ap (cubic width times (triple width a0 a1 a2))
      (sym (cubic-scales width times ring m _ _ _ m_fits (adjugate_0-lt a0 a1 a2) (adjugate_1-lt a0 a1 a2) (adjugate_2-lt a0 a1 a2)))
      ∙ times_left_comm (width + width + width) 1 (cubic width times) whole (triple width a0 a1 a2) (triple width m 0 0) adjugate
      ∙ ap (cubic width times (triple width m 0 0)) (times_adjugate a0 a1 a2 fits0 fits1 fits2)
      ∙ cubic-scales width times ring m (cubic_norm a0 a1 a2) 0 0 m_fits (norm-lt a0 a1 a2) (pow_pos width) (pow_pos width)
      ∙ same₃ (triple width) (ring.comm m (cubic_norm a0 a1 a2) ∙ inverts) (times-zero width 1 times ring m)
      (times-zero width 1 times ring m)
      ∙ triple-low width 1

-- ---- inverses

-- no number is both 0 and a successor
not_both : (m n : ℕ) → m ≡ suc n → m ≢ 0
not_both m n is e = absurd (omega (arith, is, e))

module _ (width : ℕ) (times : ℕ → ℕ → ℕ) (field : IsField width times) (wide : 0 < width) (leaves : width % 3 ≡ 1) where
  -- of an element without a term in y² the norm is a0³ + a0 a1² + a1³
  linear_norm : (a0 a1 : ℕ) → cubic_norm width times field.ring a0 a1 0
      ≡ bit_xor (bit_xor (times a0 (times a0 a0)) (times a0 (times a1 a1))) (times a1 (times a1 a1))
  linear_norm a0 a1 =
      simp (zero-times width 1 times field.ring, times-zero width 1 times field.ring, field.ring.over_sum, sums)

  -- where a0 is x a1, it is (x³ + x + 1) a1³
  norm_of_multiple : (x a1 : ℕ)
      → bit_xor (bit_xor (times (times x a1) (times (times x a1) (times x a1))) (times (times x a1) (times a1 a1))) (times a1 (times a1 a1))
      ≡ times (bit_xor (bit_xor (times x (times x x)) x) 1) (times a1 (times a1 a1))
  norm_of_multiple x a1 =
      let cube = times a1 (times a1 a1) in
      let unit : times 1 cube ≡ cube = one-times width 1 times field.ring cube (field.ring.below a1 (times a1 a1)) in
      let left : times (times x a1) (times (times x a1) (times x a1)) ≡ times (times x (times x x)) cube =
      simp (field.ring.assoc, field.ring.comm, times_left_comm width 1 times field.ring) in
      let middle : times (times x a1) (times a1 a1) ≡ times x cube = field.ring.assoc x a1 (times a1 a1) in
      ap₂ bit_xor (ap₂ bit_xor left middle) (sym unit)
      ∙ ap (λ (z : ℕ). bit_xor z (times 1 cube)) (sym (sum_times width 1 times field.ring (times x (times x x)) x cube))
      ∙ sym (sum_times width 1 times field.ring (bit_xor (times x (times x x)) x) 1 cube)

  -- a³ = 0 only for a = 0
  cube-zero : (a : ℕ) → a < 2 ^ width → times a (times a a) ≡ 0 → a ≡ 0
  cube-zero a fits nothing =
      elim (no_zero_divisors width times field.ring field.inverses a (times a a) fits (field.ring.below a a) nothing) [
        | inl e ↦ e
        | inr e ↦ elim (no_zero_divisors width times field.ring field.inverses a a fits fits e) [ inl i ↦ i | inr i ↦ i ]
      ]

  -- so that only 0 has the norm 0 among them
  high_of_linear : (a0 a1 : ℕ) → a0 < 2 ^ width → a1 < 2 ^ width → cubic_norm width times field.ring a0 a1 0 ≡ 0 → a1 ≡ 0
  high_of_linear a0 zero fits0 fits1 nothing = refl
  high_of_linear a0 (suc a) fits0 fits1 nothing =
      let inverse = field.inverses (suc a) fits1 (λ e. absurd (omega arith)) in
      let x = times a0 inverse.0 in
      let back : times x (suc a) ≡ a0 =
      field.ring.assoc a0 inverse.0 (suc a) ∙ ap (times a0) (field.ring.comm inverse.0 (suc a) ∙ inverse.2)
      ∙ times-one width 1 times field.ring a0 fits0 in
      let product : times (bit_xor (bit_xor (times x (times x x)) x) 1) (times (suc a) (times (suc a) (suc a))) ≡ 0 =
      sym (norm_of_multiple x (suc a))
      ∙ ap (λ (z : ℕ). bit_xor (bit_xor (times z (times z z)) (times z (times (suc a) (suc a)))) (times (suc a) (times (suc a) (suc a)))) back
      ∙ sym (linear_norm a0 (suc a)) ∙ nothing in
      let below : bit_xor (bit_xor (times x (times x x)) x) 1 < 2 ^ width =
      xor_lt width _ _ (xor_lt width _ _ (field.ring.below x (times x x)) (field.ring.below a0 inverse.0)) (pow_below 0 width wide) in
      elim (no_zero_divisors width times field.ring field.inverses _ _ below (field.ring.below (suc a) (times (suc a) (suc a))) product) [
        | inl e ↦ absurd (no_cubic_root width times field wide leaves x (field.ring.below a0 inverse.0) e)
        | inr e ↦ cube-zero (suc a) fits1 e
      ]

  -- if a1 = 0, the norm of a0 + a1 y is a0³, which is 0 only for a0 = 0
  low_of_linear : (a0 a1 : ℕ) → a0 < 2 ^ width → a1 ≡ 0 → cubic_norm width times field.ring a0 a1 0 ≡ 0 → a0 ≡ 0
  low_of_linear a0 a1 fits0 high nothing =
      cube-zero a0 fits0
      (sym (ap (λ (z : ℕ). bit_xor (bit_xor (times a0 (times a0 a0)) (times a0 (times z z))) (times z (times z z))) high
      ∙ simp (times-zero width 1 times field.ring, xor_zero_r))
      ∙ sym (linear_norm a0 a1) ∙ nothing)

  -- an element with a norm that is not 0 has an inverse
  inverse_by_norm : (a0 a1 a2 : ℕ) → a0 < 2 ^ width → a1 < 2 ^ width → a2 < 2 ^ width
      → cubic_norm width times field.ring a0 a1 a2 ≢ 0
      → (inverse : ℕ) × (inverse < 2 ^ (width + width + width)) × (cubic width times (triple width a0 a1 a2) inverse ≡ 1)
  inverse_by_norm a0 a1 a2 fits0 fits1 fits2 nonzero =
      let m = field.inverses (cubic_norm width times field.ring a0 a1 a2) (norm-lt width times field.ring a0 a1 a2) nonzero in (
        triple width (times m.0 (adjugate_0 width times field.ring a0 a1 a2)) (times m.0 (adjugate_1 width times field.ring a0 a1 a2))
            (times m.0 (adjugate_2 width times field.ring a0 a1 a2)),
        triple-lt width _ _ _ (field.ring.below m.0 _) (field.ring.below m.0 _) (field.ring.below m.0 _),
        scaled_adjugate width times field.ring wide a0 a1 a2 m.0 fits0 fits1 fits2 m.1 m.2,
      )

  -- a multiple of a1 + a2 y that is 0 is a multiple by 0
  zero_multiple : (c a1 a2 : ℕ) → c < 2 ^ (width + width + width) → a1 < 2 ^ width → a2 < 2 ^ width
      → cubic width times c (triple width a1 a2 0) ≡ 0 → c ≢ 0 → (a1 ≡ 0) × (a2 ≡ 0)
  zero_multiple c a1 a2 fits fits1 fits2 nothing nonzero = zero_by (cubic_norm width times field.ring a1 a2 0) refl
    where
      whole : IsRing (width + width + width) 1 (cubic width times)
      whole = cubic_ring width times field.ring wide

      zero_by : (n : ℕ) → cubic_norm width times field.ring a1 a2 0 ≡ n → (a1 ≡ 0) × (a2 ≡ 0)
      zero_by zero is =
          let high = high_of_linear a1 a2 fits1 fits2 is in (low_of_linear a1 a2 fits1 high is, high)
      zero_by (suc n) is =
          let some : cubic_norm width times field.ring a1 a2 0 ≢ 0 = not_both _ n is in
          let inverse = inverse_by_norm a1 a2 0 fits1 fits2 (pow_pos width) some in
          absurd (nonzero (divisor-zero (width + width + width) (cubic width times) whole (triple width a1 a2 0) inverse.0 c inverse.2 fits
          (whole.comm (triple width a1 a2 0) c ∙ nothing)))

  -- the coefficients of the adjugate over the field
  abbrev adjoint_0 : ℕ → ℕ → ℕ → ℕ
  adjoint_0 = adjugate_0 width times field.ring

  -- the coefficient of y
  abbrev adjoint_1 : ℕ → ℕ → ℕ → ℕ
  adjoint_1 = adjugate_1 width times field.ring

  -- the coefficient of y²
  abbrev adjoint_2 : ℕ → ℕ → ℕ → ℕ
  adjoint_2 = adjugate_2 width times field.ring

  -- the adjugate
  abbrev adjoint : ℕ → ℕ → ℕ → ℕ
  adjoint a0 a1 a2 = triple width (adjoint_0 a0 a1 a2) (adjoint_1 a0 a1 a2) (adjoint_2 a0 a1 a2)

  -- the norm of a nonzero element is not 0: otherwise the adjugate, and so the product with a1 + a2 y, would be 0
  pub norm_of_nonzero : (a0 a1 a2 : ℕ) → a0 < 2 ^ width → a1 < 2 ^ width → a2 < 2 ^ width
      → cubic_norm width times field.ring a0 a1 a2 ≡ 0 → triple width a0 a1 a2 ≡ 0
  norm_of_nonzero a0 a1 a2 fits0 fits1 fits2 nothing = decide (triple width a0 a1 a2) refl
    where
      whole : IsRing (width + width + width) 1 (cubic width times)
      whole = cubic_ring width times field.ring wide

      fits : triple width a0 a1 a2 < 2 ^ (width + width + width)
      fits = triple-lt width a0 a1 a2 fits0 fits1 fits2

      product : cubic width times (triple width a0 a1 a2) (triple width a1 a2 0) ≡ triple width (adjoint_1 a0 a1 a2) (adjoint_2 a0 a1 a2) 0
      product = linear_multiple width times field.ring a0 a1 a2 fits0 fits1 fits2

      nil : triple width 0 0 0 ≡ 0
      nil = triple-low width 0

      -- the product with the adjugate, once more times a1 + a2 y
      adjugate_times : cubic width times (adjoint a0 a1 a2) (triple width (adjoint_1 a0 a1 a2) (adjoint_2 a0 a1 a2) 0) ≡ 0
      adjugate_times =
          ap (cubic width times (adjoint a0 a1 a2)) (sym product)
          ∙ sym (whole.assoc (adjoint a0 a1 a2) (triple width a0 a1 a2) (triple width a1 a2 0))
          ∙ ap (λ (z : ℕ). cubic width times z (triple width a1 a2 0))
          (whole.comm (adjoint a0 a1 a2) (triple width a0 a1 a2) ∙ times_adjugate width times field.ring a0 a1 a2 fits0 fits1 fits2
          ∙ ap (λ (z : ℕ). triple width z 0 0) nothing ∙ nil)
          ∙ zero-times (width + width + width) 1 (cubic width times) whole (triple width a1 a2 0)

      d_fits0 : (adjoint_0 a0 a1 a2) < 2 ^ width
      d_fits0 = adjugate_0-lt width times field.ring a0 a1 a2

      d_fits1 : (adjoint_1 a0 a1 a2) < 2 ^ width
      d_fits1 = adjugate_1-lt width times field.ring a0 a1 a2

      d_fits2 : (adjoint_2 a0 a1 a2) < 2 ^ width
      d_fits2 = adjugate_2-lt width times field.ring a0 a1 a2

      d_fits : adjoint a0 a1 a2 < 2 ^ (width + width + width)
      d_fits = triple-lt width (adjoint_0 a0 a1 a2) (adjoint_1 a0 a1 a2) (adjoint_2 a0 a1 a2) d_fits0 d_fits1 d_fits2

      linear_zero : (n : ℕ) → adjoint a0 a1 a2 ≡ n → ((adjoint_1 a0 a1 a2) ≡ 0) × ((adjoint_2 a0 a1 a2) ≡ 0)
      linear_zero zero is = (
        sym (second-triple width (adjoint_0 a0 a1 a2) (adjoint_1 a0 a1 a2) (adjoint_2 a0 a1 a2) d_fits0 d_fits1) ∙ ap (chunk width 1) (is ∙ sym nil)
            ∙ second-triple width 0 0 0 (pow_pos width) (pow_pos width),
        sym (third-triple width (adjoint_0 a0 a1 a2) (adjoint_1 a0 a1 a2) (adjoint_2 a0 a1 a2) d_fits0 d_fits1 d_fits2) ∙ ap (chunk width 2) (is ∙ sym nil)
            ∙ third-triple width 0 0 0 (pow_pos width) (pow_pos width) (pow_pos width),
      )
      linear_zero (suc n) is =
          zero_multiple (adjoint a0 a1 a2) (adjoint_1 a0 a1 a2) (adjoint_2 a0 a1 a2) d_fits d_fits1 d_fits2 adjugate_times (not_both _ n is)

      decide : (n : ℕ) → triple width a0 a1 a2 ≡ n → triple width a0 a1 a2 ≡ 0
      decide zero is = is
      decide (suc n) is =
          let zeros = linear_zero (adjoint a0 a1 a2) refl in
          let vanishes : cubic width times (triple width a0 a1 a2) (triple width a1 a2 0) ≡ 0 =
          product ∙ ap₂ (λ (x y : ℕ). triple width x y 0) zeros.0 zeros.1 ∙ nil in
          let highs = zero_multiple (triple width a0 a1 a2) a1 a2 fits fits1 fits2 vanishes (not_both _ n is) in
          let low = low_of_linear a0 a1 fits0 highs.0
          (sym (ap (λ (z : ℕ). cubic_norm width times field.ring a0 a1 z) highs.1) ∙ nothing) in
          same₃ (triple width) low highs.0 highs.1 ∙ nil

  -- every nonzero element of the extension has an inverse: its adjugate over its norm
  cubic_inverses : HasInverses (width + width + width) (cubic width times)
  cubic_inverses a fits nonzero =
      let a0 = chunk width 0 a in
      let a1 = chunk width 1 a in
      let a2 = chunk width 2 a in
      let low = chunk-lt width in
      let whole : triple width a0 a1 a2 ≡ a = triple-chunks width a ∙ mod-eq_of_lt fits in
      let inverse = inverse_by_norm a0 a1 a2 (low 0 a) (low 1 a) (low 2 a)
      (λ e. nonzero (sym whole ∙ norm_of_nonzero a0 a1 a2 (low 0 a) (low 1 a) (low 2 a) e)) in
      (inverse.0, inverse.1, ap (λ (z : ℕ). cubic width times z inverse.0) (sym whole) ∙ inverse.2)

-- ---- Frobenius's map

module _ (width : ℕ) (times : ℕ → ℕ → ℕ) (ring : IsRing width 1 times) where
  -- (a0 + a1 y + a2 y²)² = a0² + a2² y + (a1² + a2²) y²
  pub cubic-square : (a0 a1 a2 : ℕ) → a0 < 2 ^ width → a1 < 2 ^ width → a2 < 2 ^ width
      → cubic width times (triple width a0 a1 a2) (triple width a0 a1 a2)
      ≡ triple width (times a0 a0) (times a2 a2) (bit_xor (times a1 a1) (times a2 a2))
  cubic-square a0 a1 a2 fits0 fits1 fits2 =
      cubic-triples width times ring a0 a1 a2 a0 a1 a2 fits0 fits1 fits2 fits0 fits1 fits2
      ∙ same₃ (triple width)
      (simp (ring.comm, sums)) (simp (ring.comm, sums)) (simp (ring.comm, sums))

  -- one squaring more
  square_once : (n a x y z : ℕ) → x < 2 ^ width → y < 2 ^ width → z < 2 ^ width
      → repeated_square 1 (cubic width times) n a ≡ triple width x y z
      → repeated_square 1 (cubic width times) (suc n) a ≡ triple width (times x x) (times z z) (bit_xor (times y y) (times z z))
  unfolding repeated_square
  square_once n a x y z x_fits y_fits z_fits is =
      ap (λ (t : ℕ). cubic width times t t) is ∙ cubic-square x y z x_fits y_fits z_fits

  -- v² + (u + v)² = u²
  mixed_squares : (u v : ℕ) → bit_xor (times v v) (times (bit_xor u v) (bit_xor u v)) ≡ times u u
  mixed_squares u v =
      ap (bit_xor (times v v)) (square_xor width 1 times ring u v ∙ xor_comm (times u u) (times v v))
      ∙ xor_cancel (times v v) (times u u)

  -- after 3 n squarings the coefficients are those of a, each squared 3 n times
  pub cubic_rounds : 0 < width → (n a0 a1 a2 : ℕ) → a0 < 2 ^ width → a1 < 2 ^ width → a2 < 2 ^ width
      → repeated_square 1 (cubic width times) (n * 3) (triple width a0 a1 a2)
      ≡ triple width (repeated_square 1 times (n * 3) a0) (repeated_square 1 times (n * 3) a1) (repeated_square 1 times (n * 3) a2)
  unfolding repeated_square
  cubic_rounds wide zero a0 a1 a2 fits0 fits1 fits2 =
      repeated_square-none (width + width + width) 1 (cubic width times) (cubic_ring width times ring wide) (triple width a0 a1 a2)
      (triple-lt width a0 a1 a2 fits0 fits1 fits2)
      ∙ sym (same₃ (triple width) (repeated_square-none width 1 times ring a0 fits0) (repeated_square-none width 1 times ring a1 fits1)
      (repeated_square-none width 1 times ring a2 fits2))
  cubic_rounds wide (suc n) a0 a1 a2 fits0 fits1 fits2 =
      let next : suc n * 3 ≡ suc (suc (suc (n * 3))) = omega arith in
      let whole = triple width a0 a1 a2 in
      let low = repeated_square-lt width 1 times ring (n * 3) in
      let u = times (repeated_square 1 times (n * 3) a1) (repeated_square 1 times (n * 3) a1) in
      let v = times (repeated_square 1 times (n * 3) a2) (repeated_square 1 times (n * 3) a2) in
      let below = ring.below in
      let once = square_once (n * 3) whole _ _ _ (low a0) (low a1) (low a2) (cubic_rounds wide n a0 a1 a2 fits0 fits1 fits2) in
      let twice = square_once (suc (n * 3)) whole _ _ _ (below _ _) (below _ _) (xor_lt width _ _ (below _ _) (below _ _)) once in
      let thrice = square_once (suc (suc (n * 3))) whole _ _ _ (below _ _) (below _ _) (xor_lt width _ _ (below _ _) (below _ _)) twice in
      ap (λ (k : ℕ). repeated_square 1 (cubic width times) k whole) next ∙ thrice
      ∙ same₃ (triple width) refl (ap (λ (z : ℕ). times z z) (mixed_squares u v)) (third_square u v)
      ∙ sym (same₃ (triple width) (ap (λ (k : ℕ). repeated_square 1 times k a0) next) (ap (λ (k : ℕ). repeated_square 1 times k a1) next)
      (ap (λ (k : ℕ). repeated_square 1 times k a2) next))
    where
      third_square : (u v : ℕ)
          → bit_xor (times (times (bit_xor u v) (bit_xor u v)) (times (bit_xor u v) (bit_xor u v)))
          (times (bit_xor (times v v) (times (bit_xor u v) (bit_xor u v))) (bit_xor (times v v) (times (bit_xor u v) (bit_xor u v))))
          ≡ times (times v v) (times v v)
      third_square u v =
          ap₂ (λ (p q : ℕ). bit_xor (times p p) (times q q)) (square_xor width 1 times ring u v) (mixed_squares u v)
          ∙ ap (λ (p : ℕ). bit_xor p (times (times u u) (times u u))) (square_xor width 1 times ring (times u u) (times v v))
          ∙ xor_comm (bit_xor (times (times u u) (times u u)) (times (times v v) (times v v))) (times (times u u) (times u u))
          ∙ xor_cancel (times (times u u) (times u u)) (times (times v v) (times v v))

module _ (width : ℕ) (times : ℕ → ℕ → ℕ) (field : IsField width times) (wide : 0 < width) where
  -- 3 w squarings return an element of w bits
  three_rounds : (a : ℕ) → a < 2 ^ width → repeated_square 1 times (width * 3) a ≡ a
  three_rounds a fits =
      let count : width * 3 ≡ width + (width + width) = omega arith in
      let back = field_frobenius width times field a fits in
      let add = repeated_square-add width 1 times field.ring width in
      ap (λ (k : ℕ). repeated_square 1 times k a) count ∙ add (width + width) a
      ∙ ap (repeated_square 1 times width) (add width a ∙ ap (repeated_square 1 times width) back ∙ back) ∙ back

  -- 3 w squarings return every element of the extension
  cubic_returns : (a : ℕ) → repeated_square 1 (cubic width times) (width + width + width) a ≡ a % 2 ^ (width + width + width)
  cubic_returns a =
      let bits : width + width + width ≡ width * 3 = omega arith in
      let low = chunk-lt width in
      let ring = cubic_ring width times field.ring wide in
      ap (λ (k : ℕ). repeated_square 1 (cubic width times) k a) bits
      ∙ sym (repeated_square-mod (width + width + width) 1 (cubic width times) ring (width * 3) a)
      ∙ ap (repeated_square 1 (cubic width times) (width * 3)) (sym (triple-chunks width a))
      ∙ cubic_rounds width times field.ring wide width (chunk width 0 a) (chunk width 1 a) (chunk width 2 a) (low 0 a) (low 1 a) (low 2 a)
      ∙ same₃ (triple width) (three_rounds (chunk width 0 a) (low 0 a)) (three_rounds (chunk width 1 a) (low 1 a))
      (three_rounds (chunk width 2 a) (low 2 a))
      ∙ triple-chunks width a

-- the cubic extension of a field of n bits, n ≡ 1 (mod 3), is a field
pub cubic_is_field : CubicIsField
cubic_is_field width times field wide leaves = record {
  ring = cubic_ring width times field.ring wide;
  inverses = cubic_inverses width times field wide leaves;
  squarings_return = cubic_returns width times field wide;
}

-- w squarings take y to y²
pub cubic_frobenius : CubicFrobenius
cubic_frobenius width times field wide leaves c0 c1 c2 fits0 fits1 fits2 =
    let ring = field.ring in
    let count : width ≡ suc (width / 3 * 3) = omega (arith, leaves) in
    let counted : width / 3 * 3 + 1 ≡ width = omega (arith, leaves) in
    let low = repeated_square-lt width 1 times ring (width / 3 * 3) in
    let back : (c : ℕ) → c < 2 ^ width
    → times (repeated_square 1 times (width / 3 * 3) c) (repeated_square 1 times (width / 3 * 3) c) ≡ c =
    λ c fits. sym (repeated_square_more width 1 times ring (width / 3 * 3) c)
    ∙ ap (λ (k : ℕ). repeated_square 1 times k c) counted ∙ field_frobenius width times field c fits in
    ap (λ (k : ℕ). repeated_square 1 (cubic width times) k (triple width c0 c1 c2)) count
    ∙ square_once width times ring (width / 3 * 3) (triple width c0 c1 c2) _ _ _ (low c0) (low c1) (low c2)
    (cubic_rounds width times ring wide (width / 3) c0 c1 c2 fits0 fits1 fits2)
    ∙ same₃ (triple width) (back c0 fits0) (back c2 fits2) (ap₂ bit_xor (back c1 fits1) (back c2 fits2))

-- the laws of the extension
pub record CubicLaws : Type 0 where
  -- the cubic extension of a ring is a ring
  pub ring : CubicIsRing
  -- no field of n bits, n ≡ 1 (mod 3), has a root of y³ + y + 1
  pub no_root : NoFieldHasACubicRoot
  -- its cubic extension is a field
  pub field : CubicIsField
  -- as many squarings as it has bits take y to y²
  pub frobenius : CubicFrobenius

-- the four laws of the cubic extension
pub cubic_laws : CubicLaws
cubic_laws = record { ring = cubic_is_ring; no_root = no_field_has_a_cubic_root; field = cubic_is_field; frobenius = cubic_frobenius }
