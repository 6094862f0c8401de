-- The polynomials of k coefficients are the functions that lists of k coefficients give.
use Rattle.std.proofs.Common.{◌≡◌, ◌≢◌, ℕ, zero, suc, ◌%◌, ◌^◌, ◌<◌, ◌≤◌, inl, inr, List, [], ◌∷◌, length, get_or, refl, sym, ◌∙◌, ap, ap₂, arith}
use Rattle.std.specs.Prelude.{bit_xor}
use lib.Bits.{xor_zero_r, xor_zero_l}
use Rattle.field_base.specs.Field.{IsField}
use Rattle.field_base.specs.Ring.{IsRing}
use Rattle.field_base.specs.Powers.{power, terms_from, value_of}
use Rattle.field_base.proofs.RingLemmas.{times_left_comm, times-zero, zero-times}
use Rattle.field_base.proofs.FieldLemmas.{no_zero_divisors}
use Rattle.field_base.proofs.Polynomials.{IsPolynomial, polynomial-lt, polynomial-vanishes}

module _ (width : ℕ) (times : ℕ → ℕ → ℕ) (ring : IsRing width 1 times) where
  -- terms a place further on are those before them, times a
  terms_shift : (a n : ℕ) (cs : List ℕ) → terms_from 1 times (λ c. c) a (suc n) cs ≡ times a (terms_from 1 times (λ c. c) a n cs)
  unfolding terms_from power
  terms_shift a n [] = sym (times-zero width 1 times ring a)
  terms_shift a n (c ∷ cs) =
      ap₂ bit_xor
      (ap (times c) (ring.comm (power 1 times a n) a) ∙ times_left_comm width 1 times ring c a (power 1 times a n))
      (terms_shift a (suc n) cs)
      ∙ sym (ring.over_sum a (times c (power 1 times a n)) (terms_from 1 times (λ c. c) a (suc n) cs))

  -- Horner's rule
  pub value_of-cons : (c : ℕ) (cs : List ℕ) (a : ℕ)
      → value_of 1 times (λ c. c) (c ∷ cs) a ≡ bit_xor (times 1 c) (times a (value_of 1 times (λ c. c) cs a))
  unfolding terms_from power
  value_of-cons c cs a = ap₂ bit_xor (ring.comm c 1) (terms_shift a 0 cs)

  pub of_coefficients : (cs : List ℕ) → IsPolynomial times (length cs) (value_of 1 times (λ c. c) cs)
  unfolding IsPolynomial terms_from
  of_coefficients [] = λ x. refl
  of_coefficients (c ∷ cs) = (c, value_of 1 times (λ c. c) cs, of_coefficients cs, value_of-cons c cs)

  pub coefficients_of : (k : ℕ) (f : ℕ → ℕ) → IsPolynomial times k f
      → (cs : List ℕ) × (length cs ≡ k) × ((x : ℕ) → f x ≡ value_of 1 times (λ c. c) cs x)
  unfolding IsPolynomial terms_from
  coefficients_of zero f p = ([], refl, p)
  coefficients_of (suc k) f p =
      let rest = coefficients_of k p.1 p.2 in (
        p.0 ∷ rest.0,
        ap suc rest.1,
        λ x. p.3 x ∙ ap (λ (z : ℕ). bit_xor (times 1 p.0) (times x z)) (rest.2 x) ∙ sym (value_of-cons p.0 rest.0 x),
      )

module _ (width : ℕ) (times : ℕ → ℕ → ℕ) (field : IsField width times) where
  -- the value at a nonzero point is 0 without the lowest coefficient too, where that one is 0
  value_of_rest : (c : ℕ) (cs : List ℕ) (a : ℕ) → times 1 c ≡ 0 → a < 2 ^ width → a ≢ 0
      → value_of 1 times (λ c. c) (c ∷ cs) a ≡ 0 → value_of 1 times (λ c. c) cs a ≡ 0
  value_of_rest c cs a none fits nonzero nothing =
      let product : times a (value_of 1 times (λ c. c) cs a) ≡ 0 =
      sym (ap (λ (z : ℕ). bit_xor z (times a (value_of 1 times (λ c. c) cs a))) none
      ∙ xor_zero_l (times a (value_of 1 times (λ c. c) cs a)))
      ∙ sym (value_of-cons width times field.ring c cs a) ∙ nothing in
      elim (no_zero_divisors width times field.ring field.inverses a (value_of 1 times (λ c. c) cs a) fits
      (polynomial-lt width times field.ring (length cs) (value_of 1 times (λ c. c) cs) (of_coefficients width times field.ring cs) a) product) [
        | inl is ↦ absurd (nonzero is)
        | inr is ↦ is
      ]

  -- a polynomial that is 0 everywhere has the lowest coefficient 0
  lowest_zero : (c : ℕ) (cs : List ℕ) → ((x : ℕ) → value_of 1 times (λ c. c) (c ∷ cs) x ≡ 0) → times 1 c ≡ 0
  lowest_zero c cs nothing =
      sym (xor_zero_r (times 1 c))
      ∙ ap (bit_xor (times 1 c)) (sym (zero-times width 1 times field.ring (value_of 1 times (λ c. c) cs 0)))
      ∙ sym (value_of-cons width times field.ring c cs 0) ∙ nothing 0

  -- and without it is 0 everywhere, since it is 0 at the nonzero points
  rest_zero : (c : ℕ) (cs : List ℕ) → suc (length cs) ≤ 2 ^ width → ((x : ℕ) → value_of 1 times (λ c. c) (c ∷ cs) x ≡ 0)
      → (x : ℕ) → value_of 1 times (λ c. c) cs x ≡ 0
  rest_zero c cs few nothing =
      polynomial-vanishes width times field.ring field.inverses (length cs) (value_of 1 times (λ c. c) cs)
      (of_coefficients width times field.ring cs) suc (λ i below. omega (arith, below, few))
      (λ i j i_below j_below e. omega (arith, e))
      (λ i below.
      value_of_rest c cs (suc i) (lowest_zero c cs nothing) (omega (arith, below, few)) (λ e. absurd (omega (arith, e))) (nothing (suc i)))

  -- a polynomial of at most 2 ^ width coefficients that is 0 everywhere has only coefficients 0
  pub zero_coefficients : (cs : List ℕ) → length cs ≤ 2 ^ width → ((x : ℕ) → value_of 1 times (λ c. c) cs x ≡ 0)
      → (i : ℕ) → i < length cs → get_or cs i 0 % 2 ^ width ≡ 0
  zero_coefficients [] few nothing i within = absurd (omega (arith, within))
  zero_coefficients (c ∷ cs) few nothing zero within = sym (field.ring.one c) ∙ lowest_zero c cs nothing
  zero_coefficients (c ∷ cs) few nothing (suc i) within =
      zero_coefficients cs (omega (arith, few)) (rest_zero c cs few nothing) i (omega (arith, within))
