-- Lagrange's formula at the elements 0, 1, 2, .. of a field, one term and one factor at a time.
use Rattle.std.proofs.Common.{◌≡◌, ◌≢◌, ℕ, ◌+◌, ◌^◌, ◌<◌, ◌≤◌, refl, sym, ◌∙◌, ap, ap₂, arith}
use Rattle.std.specs.Prelude.{bit_xor}
use native.Mathlib.Numerals.{add-one}
use Rattle.field_base.specs.Basis.{product_below}
use Rattle.field_base.specs.Field.{IsField}
use Rattle.field_base.proofs.FieldLemmas.{inverse-power}
use Rattle.field_base.specs.Interpolation.{lagrange, other_factors}
use Rattle.field_base.proofs.Interpolation.{factors-lt, factors-nonzero, factors_more, factors_skip}

module _ {width : ℕ} {times : ℕ → ℕ → ℕ} (field : IsField width times) (wide : 0 < width) where
  pub differences-none : (own x : ℕ) → 1 ≡ other_factors times (λ i. i) own x 0
  unfolding product_below
  differences-none own x = refl

  pub differences-skip : (own x n product : ℕ) → n ≡ own → product ≡ other_factors times (λ i. i) own x n
      → product ≡ other_factors times (λ i. i) own x (n + 1)
  differences-skip own x n product same so_far =
      so_far ∙ sym (factors_skip width times field wide (λ i. i) own x n same) ∙ ap (other_factors times (λ i. i) own x) (sym (add-one n))

  pub differences-more : (own x n product next : ℕ) → n ≢ own → product ≡ other_factors times (λ i. i) own x n
      → next ≡ times product (bit_xor x n) → next ≡ other_factors times (λ i. i) own x (n + 1)
  differences-more own x n product next other so_far is =
      is ∙ ap (λ (p : ℕ). times p (bit_xor x n)) so_far ∙ sym (factors_more width times field wide (λ i. i) own x n other)
      ∙ ap (other_factors times (λ i. i) own x) (sym (add-one n))

  module _ (k : ℕ) (few : k ≤ 2 ^ width) where
    pub differences-nonzero : (own : ℕ) → own < k → other_factors times (λ i. i) own own k ≢ 0
    differences-nonzero own within =
        factors-nonzero width times field wide (λ i. i) k (λ i below. omega (arith, below, few)) (λ i j i_below j_below same. same) own within k
        (omega arith)

    -- a quotient by an inverse, which is a power
    pub basis-quotient : (own x above inverse value : ℕ) → own < k → inverse < 2 ^ width → above ≡ other_factors times (λ i. i) own x k
        → times (other_factors times (λ i. i) own own k) inverse ≡ 1 → value ≡ times above inverse
        → value ≡ lagrange width times (λ i. i) k own x
    basis-quotient own x above inverse value within fits is inverts quotient =
        quotient
        ∙ ap₂ times is
        (inverse-power width times field wide (other_factors times (λ i. i) own own k) inverse
        (factors-lt width times field wide (λ i. i) own own k) fits inverts)
