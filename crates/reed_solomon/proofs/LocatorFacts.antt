-- A locator is a polynomial, 0 at the lost points and at no others, so that its product with a code word's polynomial is known everywhere. It
-- is the product of the difference from one of them and the locator of the others.
use Rattle.std.proofs.Common.{◌≡◌, ◌≢◌, ◌⊎◌, inl, inr, ℕ, zero, suc, ◌+◌, ◌^◌, ◌<◌, ◌≤◌, Bool, true, false, refl, sym, ◌∙◌, ap, ap₂, subst, arith, if◌then◌else◌}
use Rattle.std.specs.Prelude.{bit_xor}
use Rattle.std.proofs.lemmas.Bool.{cases_lt, true≢false}
use Rattle.std.proofs.lemmas.Bool.Decides.{nat_tests}
use Rattle.std.proofs.lemmas.Nat.{xor_lt}
use lib.Bits.{xor_self}
use native.Mathlib.Numerals.{add-one}
use Rattle.field_base.specs.Field.{IsField}
use Rattle.field_base.specs.Ring.{IsRing}
use Rattle.field_base.proofs.FieldLemmas.{no_zero_divisors}
use Rattle.field_base.proofs.RingLemmas.{times-zero, times_left_comm, xor_nothing}
use Rattle.field_base.proofs.Polynomials.{IsPolynomial, polynomial-root}
use Rattle.reed_solomon.specs.Locators.{locator, lost_count, others_lost}
use Rattle.reed_solomon.proofs.DerivedValues.{constant, one-lt}

-- one place more, which is lost or not
module _ (times : ℕ → ℕ → ℕ) (point : ℕ → ℕ) (lost : ℕ → Bool) (n x : ℕ) where
  chosen : Bool → ℕ
  chosen b = if b then times (bit_xor x (point n)) (locator times point lost n x) else locator times point lost n x

  pub locator-start : locator times point lost 0 x ≡ 1
  unfolding locator
  locator-start = refl

  pub locator-hit : lost n ≡ true → locator times point lost (n + 1) x ≡ times (bit_xor x (point n)) (locator times point lost n x)
  unfolding locator chosen
  locator-hit is = ap (λ (k : ℕ). locator times point lost k x) (add-one n) ∙ ap chosen is

  pub locator-miss : lost n ≡ false → locator times point lost (n + 1) x ≡ locator times point lost n x
  unfolding locator chosen
  locator-miss is = ap (λ (k : ℕ). locator times point lost k x) (add-one n) ∙ ap chosen is

module _ (width : ℕ) (times : ℕ → ℕ → ℕ) (wide : 0 < width) (field : IsField width times) (point : ℕ → ℕ) (lost : ℕ → Bool) where
  -- it has as many roots as places are lost
  pub locator-polynomial : (n : ℕ) → IsPolynomial times (suc (lost_count lost n)) (locator times point lost n)
  unfolding locator lost_count
  locator-polynomial zero = constant width times wide field.ring 0 1 (one-lt width times wide field.ring)
  locator-polynomial (suc n) = pick (locator-polynomial n) (lost n)
    where
      pick : IsPolynomial times (suc (lost_count lost n)) (locator times point lost n) → (b : Bool) → IsPolynomial times (suc (if b then suc (lost_count lost n) else lost_count lost n))
          (λ x. if b then times (bit_xor x (point n)) (locator times point lost n x) else locator times point lost n x)
      pick before true = polynomial-root width times field.ring (suc (lost_count lost n)) (point n) (locator times point lost n) before
      pick before false = before

  pub locator-lt : (n x : ℕ) → locator times point lost n x < 2 ^ width
  unfolding locator
  locator-lt zero x = one-lt width times wide field.ring
  locator-lt (suc n) x = pick (locator-lt n x) (lost n)
    where
      pick : locator times point lost n x < 2 ^ width → (b : Bool) → (if b then times (bit_xor x (point n)) (locator times point lost n x) else locator times point lost n x) < 2 ^ width
      pick before true = field.ring.below (bit_xor x (point n)) (locator times point lost n x)
      pick before false = before

  -- it is 0 at each lost point
  pub locator-root : (n p : ℕ) → p < n → lost p ≡ true → locator times point lost n (point p) ≡ 0
  unfolding locator
  locator-root zero p below is = absurd (omega (arith, below))
  locator-root (suc n) p below is = pick (λ lower. locator-root n p lower is) (cases_lt p n)
    where
      last : (b : Bool) → b ≡ true
          → (if b then times (bit_xor (point n) (point n)) (locator times point lost n (point n)) else locator times point lost n (point n)) ≡ 0
      last true e =
          ap (λ (a : ℕ). times a (locator times point lost n (point n))) (xor_self (point n))
          ∙ field.ring.comm 0 (locator times point lost n (point n)) ∙ times-zero width 1 times field.ring (locator times point lost n (point n))
      last false e = absurd (true≢false (sym e))

      early : (b : Bool) → locator times point lost n (point p) ≡ 0
          → (if b then times (bit_xor (point p) (point n)) (locator times point lost n (point p)) else locator times point lost n (point p)) ≡ 0
      early true e = ap (times (bit_xor (point p) (point n))) e ∙ times-zero width 1 times field.ring (bit_xor (point p) (point n))
      early false e = e

      pick : (p < n → locator times point lost n (point p) ≡ 0) → (p < n) ⊎ (n ≤ p) → locator times point lost (suc n) (point p) ≡ 0
      pick before (inl lower) = early (lost n) (before lower)
      pick before (inr past) =
          let same : p ≡ n = omega (arith, past, below) in
          subst (λ (q : ℕ). lost q ≡ true → locator times point lost (suc n) (point q) ≡ 0) (sym same) (last (lost n)) is

  -- and at no other element
  pub locator-nonzero : (n x : ℕ) → x < 2 ^ width → ((p : ℕ) → p < n → lost p ≡ true → point p < 2 ^ width)
      → ((p : ℕ) → p < n → lost p ≡ true → x ≢ point p) → locator times point lost n x ≢ 0
  unfolding locator
  locator-nonzero zero x fits points apart e = absurd (omega (arith, e))
  locator-nonzero (suc n) x fits points apart e =
      pick (locator-nonzero n x fits (λ p below. points p (omega (arith, below))) (λ p below. apart p (omega (arith, below)))) (lost n) refl e
    where
      pick : locator times point lost n x ≢ 0 → (b : Bool) → lost n ≡ b
          → (if b then times (bit_xor x (point n)) (locator times point lost n x) else locator times point lost n x) ≢ 0
      pick before true is none =
          elim (no_zero_divisors width times field.ring field.inverses (bit_xor x (point n)) (locator times point lost n x)
          (xor_lt width x (point n) fits (points n (omega arith) is)) (locator-lt n x) none) [
            | inl left ↦ apart n (omega arith) is (xor_nothing x (point n) left)
            | inr right ↦ before right
          ]
      pick before false is none = before none

-- ---- without one of them

module _ (lost : ℕ → Bool) (i : ℕ) where
  -- the place itself is none of the others
  pub others-own : others_lost lost i i ≡ false
  others-own = grind (arith, nat_tests)

  pub others-apart : (p : ℕ) → p ≢ i → others_lost lost i p ≡ lost p
  others-apart p differs = grind (arith, nat_tests)

  -- below it none is left out
  count-before : (n : ℕ) → n ≤ i → lost_count (others_lost lost i) n ≡ lost_count lost n
  unfolding lost_count
  count-before zero below = refl
  count-before (suc n) below =
      ap₂ (λ (b : Bool) (c : ℕ). if b then suc c else c) (others-apart n (λ same. absurd (omega (arith, below, same))))
      (count-before n (omega (arith, below)))

  pub count-without : lost i ≡ true → (n : ℕ) → i < n → lost_count lost n ≡ suc (lost_count (others_lost lost i) n)
  unfolding lost_count
  count-without is zero below = absurd (omega (arith, below))
  count-without is (suc n) below = pick (λ early. count-without is n early) (cases_lt i n)
    where
      step : Bool → ℕ → ℕ
      step b c = if b then suc c else c

      more : (b : Bool) (c : ℕ) → step b (suc c) ≡ suc (step b c)
      more true c = refl
      more false c = refl

      pick : (i < n → lost_count lost n ≡ suc (lost_count (others_lost lost i) n)) → (i < n) ⊎ (n ≤ i)
          → lost_count lost (suc n) ≡ suc (lost_count (others_lost lost i) (suc n))
      pick before (inl early) =
          ap (step (lost n)) (before early)
          ∙ more (lost n) (lost_count (others_lost lost i) n)
          ∙ ap (λ (b : Bool). suc (step b (lost_count (others_lost lost i) n))) (sym (others-apart n (λ same. absurd (omega (arith, early, same)))))
      pick before (inr past) =
          let same : n ≡ i = omega (arith, past, below) in
          ap (λ (b : Bool). step b (lost_count lost n)) (ap lost same ∙ is)
          ∙ ap suc (sym (count-before n past))
          ∙ ap (λ (b : Bool). suc (step b (lost_count (others_lost lost i) n))) (sym (ap (others_lost lost i) same ∙ others-own))

module _ (width : ℕ) (times : ℕ → ℕ → ℕ) (ring : IsRing width 1 times) (point : ℕ → ℕ) (lost : ℕ → Bool) (i x : ℕ) where
  passed : ℕ → Bool → ℕ → ℕ
  passed n b v = if b then times (bit_xor x (point n)) v else v

  abbrev others : ℕ → ℕ
  others n = locator times point (others_lost lost i) n x

  locator-before : (n : ℕ) → n ≤ i → others n ≡ locator times point lost n x
  unfolding locator passed
  locator-before zero below = refl
  locator-before (suc n) below =
      ap₂ (passed n) (others-apart lost i n (λ same. absurd (omega (arith, below, same)))) (locator-before n (omega (arith, below)))

  -- the locator is the difference from the place's point, times that of the others
  pub locator-without : lost i ≡ true → (n : ℕ) → i < n → locator times point lost n x ≡ times (bit_xor x (point i)) (others n)
  unfolding locator passed
  locator-without is zero below = absurd (omega (arith, below))
  locator-without is (suc n) below = pick (λ early. locator-without is n early) (cases_lt i n)
    where
      own : ℕ
      own = bit_xor x (point i)

      through : (b : Bool) (v : ℕ) → passed n b (times own v) ≡ times own (passed n b v)
      through true v = times_left_comm width 1 times ring (bit_xor x (point n)) own v
      through false v = refl

      pick : (i < n → locator times point lost n x ≡ times own (others n)) → (i < n) ⊎ (n ≤ i)
          → locator times point lost (suc n) x ≡ times own (others (suc n))
      pick before (inl early) =
          ap (passed n (lost n)) (before early)
          ∙ through (lost n) (others n)
          ∙ ap (λ (b : Bool). times own (passed n b (others n))) (sym (others-apart lost i n (λ same. absurd (omega (arith, early, same)))))
      pick before (inr past) =
          let same : n ≡ i = omega (arith, past, below) in
          ap (λ (b : Bool). passed n b (locator times point lost n x)) (ap lost same ∙ is)
          ∙ ap₂ times (ap (λ (p : ℕ). bit_xor x (point p)) same) (sym (locator-before n past))
          ∙ ap (λ (b : Bool). times own (passed n b (others n))) (sym (ap (others_lost lost i) same ∙ others-own lost i))
