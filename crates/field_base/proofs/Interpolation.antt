-- Lagrange's interpolation gives the one polynomial of k coefficients through k points.
use Rattle.std.proofs.Common.{◌≡◌, ◌≢◌, ℕ, zero, suc, ◌-◌, ◌^◌, ◌<◌, ◌≤◌, inl, inr, Bool, true, false, refl, sym, ◌∙◌, ap, ap₂, arith}
use Rattle.std.specs.Prelude.{bit_xor, nat_eq, if◌then◌else◌}
use Rattle.std.proofs.lemmas.Bool.Decides.{eqb_tells}
use Rattle.std.proofs.lemmas.Nat.{xor_comm, xor_lt, pow_below}
use lib.Bits.{xor_self, xor_zero_r}
use Rattle.field_base.specs.Basis.{sum_below, product_below}
use Rattle.field_base.specs.Field.{IsField}
use Rattle.field_base.specs.Powers.{power}
use Rattle.field_base.proofs.RingLemmas.{xor_nothing, times-zero, zero-times}
use Rattle.field_base.proofs.PowerLemmas.{one-times, times-one}
use Rattle.field_base.proofs.FieldLemmas.{no_zero_divisors, power-inverts}
use Rattle.field_base.specs.Interpolation.{other_factors, lagrange, interpolated}
use Rattle.field_base.proofs.Polynomials.{IsPolynomial, polynomial-same, polynomial-zero, polynomial-sum, polynomial-scale, polynomial-root, polynomial-unique}
use Rattle.field_base.proofs.BasisSums.{sum_below-zeros}

-- ---- sums with one term

sum_one : (f : ℕ → ℕ) (n i : ℕ) → i < n → ((j : ℕ) → j < n → j ≢ i → f j ≡ 0) → sum_below f n ≡ f i
unfolding sum_below
sum_one f zero i within others = absurd (omega (arith, within))
sum_one f (suc n) i within others =
    elim (eqb_tells n i) [
      | inl same ↦ ap (λ (z : ℕ). bit_xor z (f n)) (sum_below-zeros f n (λ j below. others j (omega (arith, below)) (λ e. absurd (omega (arith, below, e, same.1)))))
          ∙ xor_comm 0 (f n) ∙ xor_zero_r (f n) ∙ ap f same.1
      | inr other ↦ ap₂ bit_xor (sum_one f n i (apart n i within other.1) (λ j below. others j (omega (arith, below)))) (others n (omega arith) other.1)
          ∙ xor_zero_r (f i)
    ]
  where
    apart : (n i : ℕ) → i < suc n → n ≢ i → i < n
    apart n i within different = elim (eqb_tells n i) [
      | inl same ↦ absurd (different same.1)
      | inr other ↦ before n i within other.1
    ]
      where
        before : (n i : ℕ) → i < suc n → (n ≡ i → ⊥) → i < n
        before n i within different = omega (arith, within, different)

module _ (width : ℕ) (times : ℕ → ℕ → ℕ) (field : IsField width times) (wide : 0 < width) (point : ℕ → ℕ) where
  one_fits : 1 < 2 ^ width
  one_fits = pow_below 0 width wide

  factor_same : (skip i x : ℕ) → nat_eq i skip ≡ true → (if nat_eq i skip then 1 else bit_xor x (point i)) ≡ 1
  factor_same skip i x e = ap (λ (b : Bool). if b then 1 else bit_xor x (point i)) e

  factor_other : (skip i x : ℕ) → nat_eq i skip ≡ false → (if nat_eq i skip then 1 else bit_xor x (point i)) ≡ bit_xor x (point i)
  factor_other skip i x e = ap (λ (b : Bool). if b then 1 else bit_xor x (point i)) e

  pub factors-lt : (skip x n : ℕ) → other_factors times point skip x n < 2 ^ width
  unfolding product_below
  factors-lt skip x zero = one_fits
  factors-lt skip x (suc n) = field.ring.below (other_factors times point skip x n) (if nat_eq n skip then 1 else bit_xor x (point n))

  -- one factor more, where it counts and where it does not
  pub factors_skip : (skip x n : ℕ) → n ≡ skip → other_factors times point skip x (suc n) ≡ other_factors times point skip x n
  unfolding product_below
  factors_skip skip x n same =
      elim (eqb_tells n skip) [
        | inl is ↦ ap (times (other_factors times point skip x n)) (factor_same skip n x is.0)
            ∙ times-one width 1 times field.ring (other_factors times point skip x n) (factors-lt skip x n)
        | inr other ↦ absurd (other.1 same)
      ]

  pub factors_more : (skip x n : ℕ) → n ≢ skip
      → other_factors times point skip x (suc n) ≡ times (other_factors times point skip x n) (bit_xor x (point n))
  unfolding product_below
  factors_more skip x n different =
      elim (eqb_tells n skip) [
        | inl is ↦ absurd (different is.1)
        | inr other ↦ ap (times (other_factors times point skip x n)) (factor_other skip n x other.0)
      ]

  -- ---- they are polynomials

  polynomial_one : IsPolynomial times 1 (λ x. 1)
  unfolding IsPolynomial
  polynomial_one = (
    1,
    (λ x. 0),
    (λ x. refl),
    λ x.
        sym (ap₂ bit_xor (one-times width 1 times field.ring 1 one_fits) (times-zero width 1 times field.ring x) ∙ xor_zero_r 1),
  )

  factors-before : (skip n : ℕ) → n ≤ skip → IsPolynomial times (suc n) (λ x. other_factors times point skip x n)
  unfolding product_below
  factors-before skip zero within = polynomial_one
  factors-before skip (suc n) within =
      polynomial-same width times field.ring (suc (suc n)) (λ x. times (bit_xor x (point n)) (other_factors times point skip x n))
      (λ x. other_factors times point skip x (suc n))
      (λ x.
      field.ring.comm (bit_xor x (point n)) (other_factors times point skip x n)
      ∙ sym (factors_more skip x n (λ e. absurd (omega (arith, e, within)))))
      (polynomial-root width times field.ring (suc n) (point n) (λ x. other_factors times point skip x n)
      (factors-before skip n (omega (arith, within))))

  pub factors-polynomial : (skip n : ℕ) → skip < n → IsPolynomial times n (λ x. other_factors times point skip x n)
  factors-polynomial skip zero within = absurd (omega (arith, within))
  factors-polynomial skip (suc n) within =
      elim (eqb_tells n skip) [
        | inl is ↦ polynomial-same width times field.ring (suc n) (λ x. other_factors times point skip x n) (λ x. other_factors times point skip x (suc n))
            (λ x. sym (factors_skip skip x n is.1)) (factors-before skip n (at_most n skip is.1))
        | inr other ↦ polynomial-same width times field.ring (suc n) (λ x. times (bit_xor x (point n)) (other_factors times point skip x n))
            (λ x. other_factors times point skip x (suc n))
            (λ x.
            field.ring.comm (bit_xor x (point n)) (other_factors times point skip x n) ∙ sym (factors_more skip x n other.1))
            (polynomial-root width times field.ring n (point n) (λ x. other_factors times point skip x n)
            (factors-polynomial skip n (less n skip within other.1)))
      ]
    where
      at_most : (n skip : ℕ) → n ≡ skip → n ≤ skip
      at_most n skip e = omega (arith, e)

      less : (n skip : ℕ) → skip < suc n → (n ≡ skip → ⊥) → skip < n
      less n skip within different = omega (arith, within, different)

  -- ---- which are 0 at the other points, and not at their own

  factors_at_other : (skip n i : ℕ) → i < n → i ≢ skip → other_factors times point skip (point i) n ≡ 0
  factors_at_other skip zero i within different = absurd (omega (arith, within))
  factors_at_other skip (suc n) i within different =
      elim (eqb_tells n i) [
        | inl is ↦ factors_more skip (point i) n (λ e. different (sym is.1 ∙ e))
            ∙ ap (times (other_factors times point skip (point i) n))
            (ap (λ (m : ℕ). bit_xor (point i) (point m)) is.1 ∙ xor_self (point i))
            ∙ times-zero width 1 times field.ring (other_factors times point skip (point i) n)
        | inr other ↦ earlier (factors_at_other skip n i (less n i within other.1) different)
      ]
    where
      less : (n i : ℕ) → i < suc n → (n ≡ i → ⊥) → i < n
      less n i within different = omega (arith, within, different)

      earlier : other_factors times point skip (point i) n ≡ 0 → other_factors times point skip (point i) (suc n) ≡ 0
      earlier before =
          elim (eqb_tells n skip) [
            | inl is ↦ factors_skip skip (point i) n is.1 ∙ before
            | inr other ↦ factors_more skip (point i) n other.1
                ∙ ap (λ (z : ℕ). times z (bit_xor (point i) (point n))) before
                ∙ zero-times width 1 times field.ring (bit_xor (point i) (point n))
          ]

  module _ (k : ℕ) (fits : (i : ℕ) → i < k → point i < 2 ^ width)
      (distinct : (i j : ℕ) → i < k → j < k → point i ≡ point j → i ≡ j) where
    pub factors-nonzero : (j : ℕ) → j < k → (n : ℕ) → n ≤ k → other_factors times point j (point j) n ≢ 0
    unfolding product_below
    factors-nonzero j within zero most = λ e. absurd (omega (arith, e))
    factors-nonzero j within (suc n) most =
        λ e.
        elim (eqb_tells n j) [
          | inl is ↦ factors-nonzero j within n (omega (arith, most)) (sym (factors_skip j (point j) n is.1) ∙ e)
          | inr other ↦ elim (no_zero_divisors width times field.ring field.inverses (other_factors times point j (point j) n) (bit_xor (point j) (point n))
              (factors-lt j (point j) n) (xor_lt width (point j) (point n) (fits j within) (fits n (below_k n most)))
              (sym (factors_more j (point j) n other.1) ∙ e)) [
                | inl nothing ↦ factors-nonzero j within n (omega (arith, most)) nothing
                | inr nothing ↦ other.1 (sym (distinct j n within (below_k n most) (xor_nothing (point j) (point n) nothing)))
              ]
        ]
      where
        below_k : (n : ℕ) → suc n ≤ k → n < k
        below_k n most = omega (arith, most)

    pub lagrange_at_own : (j : ℕ) → j < k → lagrange width times point k j (point j) ≡ 1
    lagrange_at_own j within =
        power-inverts width times field wide (other_factors times point j (point j) k) (factors-lt j (point j) k)
        (factors-nonzero j within k (omega arith))

    pub lagrange_at_other : (j i : ℕ) → i < k → i ≢ j → lagrange width times point k j (point i) ≡ 0
    lagrange_at_other j i within different =
        ap (λ (z : ℕ). times z (power 1 times (other_factors times point j (point j) k) (2 ^ width - 2)))
        (factors_at_other j k i within different)
        ∙ zero-times width 1 times field.ring (power 1 times (other_factors times point j (point j) k) (2 ^ width - 2))

    lagrange-polynomial : (j : ℕ) → j < k → IsPolynomial times k (λ x. lagrange width times point k j x)
    lagrange-polynomial j within =
        polynomial-same width times field.ring k (λ x. times (power 1 times (other_factors times point j (point j) k) (2 ^ width - 2)) (other_factors times point j x k))
        (λ x. lagrange width times point k j x)
        (λ x. field.ring.comm (power 1 times (other_factors times point j (point j) k) (2 ^ width - 2)) (other_factors times point j x k))
        (polynomial-scale width times field.ring k (power 1 times (other_factors times point j (point j) k) (2 ^ width - 2))
        (λ x. other_factors times point j x k) (factors-polynomial j k within))

    sums-polynomial : (value : ℕ → ℕ) (n : ℕ) → n ≤ k
        → IsPolynomial times k (λ x. sum_below (λ j. times (lagrange width times point k j x) (value j)) n)
    unfolding sum_below
    sums-polynomial value zero most = polynomial-zero width times field.ring k
    sums-polynomial value (suc n) most =
        polynomial-sum width times field.ring k (λ x. sum_below (λ j. times (lagrange width times point k j x) (value j)) n)
        (λ x. times (lagrange width times point k n x) (value n)) (sums-polynomial value n (omega (arith, most)))
        (polynomial-same width times field.ring k (λ x. times (value n) (lagrange width times point k n x))
        (λ x. times (lagrange width times point k n x) (value n))
        (λ x. field.ring.comm (value n) (lagrange width times point k n x))
        (polynomial-scale width times field.ring k (value n) (λ x. lagrange width times point k n x) (lagrange-polynomial n (omega (arith, most)))))

    -- it is a polynomial of k coefficients
    pub interpolated-polynomial : (value : ℕ → ℕ) → IsPolynomial times k (λ x. interpolated width times point value k x)
    interpolated-polynomial value = sums-polynomial value k (omega arith)

    -- through the points
    pub interpolated-at : (value : ℕ → ℕ) (i : ℕ) → i < k → value i < 2 ^ width → interpolated width times point value k (point i) ≡ value i
    interpolated-at value i within value_fits =
        sum_one (λ j. times (lagrange width times point k j (point i)) (value j)) k i within
        (λ j below different.
        ap (λ (z : ℕ). times z (value j)) (lagrange_at_other j i within (λ e. different (sym e)))
        ∙ zero-times width 1 times field.ring (value j))
        ∙ ap (λ (z : ℕ). times z (value i)) (lagrange_at_own i within) ∙ one-times width 1 times field.ring (value i) value_fits

    -- and there is no other
    pub interpolated-is : (f : ℕ → ℕ) → IsPolynomial times k f → (value : ℕ → ℕ) → ((i : ℕ) → i < k → value i ≡ f (point i))
        → ((i : ℕ) → i < k → value i < 2 ^ width) → (x : ℕ) → interpolated width times point value k x ≡ f x
    interpolated-is f p value through values_fit =
        polynomial-unique width times field.ring field.inverses k (λ x. interpolated width times point value k x) f
        (interpolated-polynomial value) p point fits distinct
        (λ i below. interpolated-at value i below (values_fit i below) ∙ through i below)
