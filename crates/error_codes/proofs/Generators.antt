-- The words of a code by a generator polynomial are those whose syndromes are 0.
use Rattle.std.proofs.Common.{◌≡◌, ◌≢◌, ℕ, zero, suc, ◌+◌, ◌*◌, ◌^◌, ◌<◌, inl, inr, List, [], ◌∷◌, length, true, refl}
use Rattle.std.proofs.Common.{sym, ◌∙◌, ap, ap₂, arith}
use Rattle.std.specs.Prelude.{bit_xor, slice_index}
use Rattle.std.proofs.lemmas.Nat.{pow_below, xor_lt}
use lib.Bits.{xor_zero_l}
use Rattle.field_base.specs.Basis.{product_below, sum_below}
use Rattle.field_base.specs.Field.{IsField}
use Rattle.field_base.specs.Powers.{power, terms_from}
use Rattle.field_base.proofs.FieldLemmas.{no_zero_divisors}
use Rattle.field_base.proofs.PowerLemmas.{power-add, power-lt, power-mul, times-one}
use Rattle.field_base.proofs.RingLemmas.{times_left_comm, times-zero, xor_nothing}
use Rattle.field_base.specs.PolynomialRoots.{AreDistinctBelow}
use Rattle.field_base.proofs.PolynomialCoefficients.{coefficients_of, value_of-cons}
use Rattle.field_base.proofs.Polynomials.{IsPolynomial, polynomial-divide, polynomial-lt}
use Rattle.error_codes.specs.Generators.{MultiplesAreChecked, PowersAreScaled, SyndromesAreValues, generator}
use Rattle.error_codes.specs.Generators.{power_point, power_scale}
use Rattle.error_codes.specs.Words.{at}
use Rattle.error_codes.proofs.Lists.{list-polynomial}
use Rattle.error_codes.proofs.Moments.{sum-first, sum-same, sum-times}
use Rattle.error_codes.proofs.Products.{locator-zero, polynomial-as}

module _ (width : ℕ) (times : ℕ → ℕ → ℕ) (wide : 0 < width) (field : IsField width times) where
  one_fits : 1 < 2 ^ width
  one_fits = pow_below 0 width wide

  -- a value is the sum of coefficients times powers
  value-sum : (cs : List ℕ) (x : ℕ)
      → at times cs x ≡ sum_below (λ i. times (slice_index cs i) (power 1 times x i)) (length cs)
  unfolding terms_from sum_below power
  value-sum [] x = refl
  value-sum (c ∷ cs) x =
      value_of-cons width times field.ring c cs x
      ∙ ap₂ bit_xor (field.ring.comm 1 c)
      (ap (times x) (value-sum cs x)
      ∙ sym (sum-times width times wide field x (λ i. times (slice_index cs i) (power 1 times x i)) (length cs))
      ∙ sum-same (λ i. times x (times (slice_index cs i) (power 1 times x i)))
      (λ i. times (slice_index (c ∷ cs) (suc i)) (power 1 times x (suc i))) (length cs)
      (λ i below.
      times_left_comm width 1 times field.ring x (slice_index cs i) (power 1 times x i)
      ∙ ap (times (slice_index cs i)) (field.ring.comm x (power 1 times x i))))
      ∙ sym (sum-first (λ i. times (slice_index (c ∷ cs) i) (power 1 times x i)) (length cs))

  pub powers-join : (r b m i : ℕ)
      → times (power 1 times (power 1 times r b) i) (power 1 times (power 1 times r i) m) ≡ power 1 times
      (power 1 times r (b + m)) i
  powers-join r b m i =
      ap₂ times (sym (power-mul width 1 times field.ring one_fits r b i))
      (sym (power-mul width 1 times field.ring one_fits r i m))
      ∙ sym (power-add width 1 times field.ring one_fits r (b * i) (i * m)) ∙ ap (power 1 times r) (counted b m i)
      ∙ power-mul width 1 times field.ring one_fits r (b + m) i
    where
      counted : (b m i : ℕ) → b * i + i * m ≡ (b + m) * i
      counted b m i = omega arith

  pub power-nonzero : (a : ℕ) → a < 2 ^ width → a ≢ 0 → (n : ℕ) → power 1 times a n ≢ 0
  unfolding power
  power-nonzero a fits nonzero zero is = absurd (omega (arith, is))
  power-nonzero a fits nonzero (suc n) is =
      elim (no_zero_divisors width times field.ring field.inverses (power 1 times a n) a
      (power-lt width 1 times field.ring one_fits a n) fits is) [
        | inl none ↦ power-nonzero a fits nonzero n none
        | inr none ↦ nonzero none
      ]

  -- a polynomial that is 0 at so many different points is a multiple of the product of x + these
  divided : (checks k total : ℕ) (f : ℕ → ℕ) → checks + k ≡ total → IsPolynomial times total f → (root : ℕ → ℕ)
      → AreDistinctBelow checks (2 ^ width) root
      → ((j : ℕ) → j < checks → f (root j) ≡ 0)
      → (q : ℕ → ℕ) × IsPolynomial times k q × ((x : ℕ)
      → f x ≡ times (q x) (product_below times (λ j. bit_xor x (root j)) checks))
  unfolding product_below
  divided zero k total f sum p root roots zeros = (
    f,
    polynomial-as width times field.ring total k f (omega (arith, sum)) p,
    λ x. sym (times-one width 1 times field.ring (f x) (polynomial-lt width times field.ring total f p x)),
  )
  divided (suc checks) k total f sum p root roots zeros =
      next (polynomial-divide width times field.ring (checks + k) f (root checks)
      (polynomial-as width times field.ring total (suc (checks + k)) f (omega (arith, sum)) p))
      (λ h h_polynomial h_zeros.
      divided checks k (checks + k) h refl h_polynomial root
      (record {
        below = λ j below. roots.below j (omega (arith, below));
        differ =
            λ i j i_below j_below. roots.differ i j (omega (arith, i_below)) (omega (arith, j_below));
      }) h_zeros)
    where
      less : (j checks : ℕ) → j < checks → j ≡ checks → ⊥
      less j checks below same = absurd (omega (arith, below, same))

      next : ((h : ℕ → ℕ) × IsPolynomial times (checks + k) h × ((x : ℕ)
          → f x ≡ bit_xor (f (root checks)) (times (bit_xor x (root checks)) (h x))))
          → ((h : ℕ → ℕ) → IsPolynomial times (checks + k) h → ((j : ℕ) → j < checks → h (root j) ≡ 0)
          → (q : ℕ → ℕ) × IsPolynomial times k q × ((x : ℕ)
          → h x ≡ times (q x) (product_below times (λ j. bit_xor x (root j)) checks)))
          → (q : ℕ → ℕ) × IsPolynomial times k q
          × ((x : ℕ) → f x ≡ times (q x) (times (product_below times (λ j. bit_xor x (root j)) checks)
          (bit_xor x (root checks))))
      next parts before = (
        rest.0,
        rest.1,
        λ x.
            product x ∙ ap (times (bit_xor x (root checks))) (rest.2 x)
            ∙ times_left_comm width 1 times field.ring (bit_xor x (root checks)) (rest.0 x)
            (product_below times (λ j. bit_xor x (root j)) checks)
            ∙ ap (times (rest.0 x)) (field.ring.comm (bit_xor x (root checks))
            (product_below times (λ j. bit_xor x (root j)) checks)),
      )
        where
          product : (x : ℕ) → f x ≡ times (bit_xor x (root checks)) (parts.0 x)
          product x =
              parts.2 x ∙ ap (λ (z : ℕ). bit_xor z (times (bit_xor x (root checks)) (parts.0 x)))
              (zeros checks (omega arith))
              ∙ xor_zero_l (times (bit_xor x (root checks)) (parts.0 x))

          rest : (q : ℕ → ℕ) × IsPolynomial times k q × ((x : ℕ)
              → parts.0 x ≡ times (q x) (product_below times (λ j. bit_xor x (root j)) checks))
          rest =
              before parts.0 parts.1
              (λ j below.
              elim (no_zero_divisors width times field.ring field.inverses (bit_xor (root j) (root checks))
              (parts.0 (root j))
              (xor_lt width (root j) (root checks) (roots.below j (omega (arith, below)))
              (roots.below checks (omega arith)))
              (polynomial-lt width times field.ring (checks + k) parts.0 parts.1 (root j))
              (sym (product (root j)) ∙ zeros j (omega (arith, below)))) [
                | inl none ↦ absurd (less j checks below (roots.differ j checks (omega (arith, below)) (omega arith)
                    (xor_nothing (root j) (root checks) none)))
                | inr none ↦ none
              ])

pub syndromes_are_values : SyndromesAreValues
syndromes_are_values width times wide field r b m word =
    sum-same (λ i. times (times (power_scale times r b i) (slice_index word i))
    (power 1 times (power_point times r i) m))
    (λ i. times (slice_index word i) (power 1 times (power 1 times r (b + m)) i)) (length word)
    (λ i below.
    ap (λ (z : ℕ). times z (power 1 times (power 1 times r i) m))
    (field.ring.comm (power_scale times r b i) (slice_index word i))
    ∙ field.ring.assoc (slice_index word i) (power_scale times r b i) (power 1 times (power 1 times r i) m)
    ∙ ap (times (slice_index word i)) (powers-join width times wide field r b m i))
    ∙ sym (value-sum width times wide field word (power 1 times r (b + m)))

pub powers_are_scaled : PowersAreScaled
powers_are_scaled width times wide field r b n fits nonzero points = record {
  points = points;
  scales = λ i below. power-lt width 1 times field.ring (one_fits width times wide field) (power 1 times r b) i;
  nonzero = λ i below.
      power-nonzero width times wide field (power 1 times r b)
      (power-lt width 1 times field.ring (one_fits width times wide field) r b)
      (power-nonzero width times wide field r fits nonzero b) i;
}

pub multiples_are_checked : MultiplesAreChecked
multiples_are_checked width times wide field r b checks k word count roots = (
  (λ multiple m below.
      syndromes_are_values width times wide field r b m word ∙ multiple.product (root m)
      ∙ ap (times (at times multiple.quotient (root m))) (locator-zero width times wide field root
      (λ j. true) checks m below refl)
      ∙ times-zero width 1 times field.ring (at times multiple.quotient (root m))),
  λ checked.
      let parts =
      divided width times wide field checks k (k + checks) (at times word) (omega arith)
      (list-polynomial width times field (k + checks) word count) root roots
      (λ m below. sym (syndromes_are_values width times wide field r b m word) ∙ checked m below) in
      let list = coefficients_of width times field.ring k parts.0 parts.1 in
      record {
        quotient = list.0;
        count = list.1;
        product = λ x. parts.2 x ∙ ap (λ (z : ℕ). times z (generator times r b checks x)) (list.2 x);
      },
)
  where
    root : ℕ → ℕ
    root j = power 1 times r (b + j)
