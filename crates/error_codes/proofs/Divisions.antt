-- A division with remainder has one quotient and one remainder.
use Rattle.std.proofs.Common.{◌≡◌, ◌⊎◌, ℕ, zero, suc, ◌+◌, ◌%◌, ◌^◌, ◌<◌, ◌≤◌, inl, inr, List, length, true, false}
use Rattle.std.proofs.Common.{refl, sym, ◌∙◌, ap, arith}
use Rattle.std.specs.Prelude.{bit_xor, nat_eq, slice_index}
use Rattle.std.proofs.lemmas.Bool.Decides.{eqb_tells}
use lib.Bits.{xor_self, xor_zero_r}
use Rattle.field_base.specs.Field.{IsField}
use Rattle.field_base.specs.Powers.{power}
use Rattle.field_base.proofs.RingLemmas.{mod-times, sum_times, xor_cancel, xor_nothing, zero-times}
use Rattle.field_base.proofs.Codewords.{many_roots_mean_zero}
use Rattle.field_base.proofs.PolynomialCoefficients.{coefficients_of}
use Rattle.field_base.proofs.Polynomials.{IsPolynomial, polynomial-same, polynomial-sum}
use Rattle.error_codes.specs.Decoding.{DivisionsAreExact}
use Rattle.error_codes.specs.Euclid.{HasTop}
use Rattle.error_codes.specs.Words.{at}
use Rattle.error_codes.proofs.Degrees.{make-top, top-product, top-sum, without-top}
use Rattle.error_codes.proofs.Lists.{list-polynomial}
use Rattle.error_codes.proofs.Products.{polynomial-most}

module _ (width : ℕ) (times : ℕ → ℕ → ℕ) (wide : 0 < width) (field : IsField width times) where
  -- a polynomial of a degree is not 0 everywhere
  never-zero : (d : ℕ) (f : ℕ → ℕ) → d < 2 ^ width → HasTop width times d f → ((x : ℕ) → f x ≡ 0) → ⊥
  never-zero d f short has none =
      has.top
      ((many_roots_mean_zero width times (suc d) has.coefficients (λ i. i) wide field (let count = has.count in
      omega (arith, count))
      (record { below = λ i below. omega (arith, below, short); differ = λ i j i_below j_below same. same })
      (λ i below. sym (has.values i) ∙ none i)).each_coefficient d (let count = has.count in omega (arith, count)))

  -- h · bottom has no fewer coefficients than bottom, but for h = 0
  factor-zero : (k d : ℕ) (h bottom rest : ℕ → ℕ) → k + d ≤ 2 ^ width → IsPolynomial times k h
      → HasTop width times d bottom → IsPolynomial times d rest
      → ((x : ℕ) → times (h x) (bottom x) ≡ rest x) → (x : ℕ) → h x ≡ 0
  unfolding IsPolynomial
  factor-zero zero d h bottom rest short p has q same = p
  factor-zero (suc k) d h bottom rest short p has q same =
      pick (eqb_tells (top % 2 ^ width) 0) (λ fewer. factor-zero k d h bottom rest
      (omega (arith, short)) fewer has q same)
    where
      list : (cs : List ℕ) × (length cs ≡ suc k) × ((x : ℕ) → h x ≡ at times cs x)
      list = coefficients_of width times field.ring (suc k) h p

      parts : (g : ℕ → ℕ) × IsPolynomial times k g × ((x : ℕ)
          → at times list.0 x ≡ bit_xor (g x) (times (slice_index list.0 k) (power 1 times x k)))
      parts = without-top width times wide field k list.0 list.1

      top : ℕ
      top = slice_index list.0 k

      pick : ((nat_eq (top % 2 ^ width) 0 ≡ true) × (top % 2 ^ width ≡ 0)) ⊎ ((nat_eq (top % 2 ^ width) 0 ≡ false)
          × (top % 2 ^ width ≡ 0 → ⊥))
          → (IsPolynomial times k h → (x : ℕ) → h x ≡ 0) → (x : ℕ) → h x ≡ 0
      pick (inl none) before =
          before
          (polynomial-same width times field.ring k parts.0 h
          (λ x.
          sym (list.2 x ∙ parts.2 x
          ∙ ap (bit_xor (parts.0 x))
          (sym (mod-times width 1 times field.ring top (power 1 times x k))
          ∙ ap (λ (z : ℕ). times z (power 1 times x k)) none.1
          ∙ zero-times width 1 times field.ring (power 1 times x k))
          ∙ xor_zero_r (parts.0 x)))
          parts.1)
      pick (inr some) before =
          absurd (never-zero (k + d) (λ x. bit_xor (rest x) (times (h x) (bottom x))) (omega (arith, short))
          (top-sum width times wide field (k + d) rest (λ x. times (h x) (bottom x))
          (polynomial-most width times field.ring d (k + d) rest (omega arith) q)
          (top-product width times wide field k d h bottom
          (make-top width times wide field k h parts.0 parts.1 top some.1 (λ x. list.2 x ∙ parts.2 x)) has))
          (λ x. ap (bit_xor (rest x)) (same x) ∙ xor_self (rest x)))

pub divisions_are_exact : DivisionsAreExact
divisions_are_exact width times wide field k d top bottom q rest g short bottom_count bottom_top q_count rest_count
    divides quotient = (
      same,
      λ x.
          sym (xor_cancel (times (at times q x) (at times bottom x)) (at times rest x))
          ∙ ap (bit_xor (times (at times q x) (at times bottom x)))
          (sym (divides x) ∙ quotient.product x ∙ ap (λ (z : ℕ). times z (at times bottom x)) (sym (same x)))
          ∙ xor_self (times (at times q x) (at times bottom x)),
    )
  where
    same : (x : ℕ) → at times q x ≡ at times g x
    same x =
        xor_nothing (at times q x) (at times g x)
        (factor-zero width times wide field k d (λ y. bit_xor (at times q y) (at times g y)) (at times bottom)
        (at times rest) short
        (polynomial-sum width times field.ring k (at times q) (at times g)
        (list-polynomial width times field k q q_count) (list-polynomial width times field k g quotient.count))
        (record { coefficients = bottom; count = bottom_count; top = bottom_top; values = λ y. refl })
        (list-polynomial width times field d rest rest_count)
        (λ y.
        sum_times width 1 times field.ring (at times q y) (at times g y) (at times bottom y)
        ∙ ap (bit_xor (times (at times q y) (at times bottom y))) (sym (quotient.product y) ∙ divides y)
        ∙ xor_cancel (times (at times q y) (at times bottom y)) (at times rest y)) x)
