-- Every word that the checks let through is one of values of a polynomial.
use Rattle.std.proofs.Common.{◌≡◌, ◌≢◌, ◌⊎◌, ℕ, zero, suc, ◌+◌, ◌-◌, ◌%◌, ◌^◌, ◌<◌, ◌≤◌, inl, inr, List, [], length}
use Rattle.std.proofs.Common.{true, false, refl, sym, ◌∙◌, ap, ap₂, subst, arith}
use Rattle.std.specs.Prelude.{bit_xor, nat_eq, slice_index}
use Rattle.std.proofs.lemmas.Nat.{pow_below, pow_pos, xor_lt}
use Rattle.std.proofs.lemmas.Bool.Decides.{eqb_tells}
use lib.Bits.{xor_zero_l, xor_zero_r}
use Rattle.field_base.specs.Basis.{sum_below}
use Rattle.field_base.specs.Field.{IsField}
use Rattle.field_base.specs.Powers.{power}
use Rattle.field_base.proofs.FieldLemmas.{no_zero_divisors, power-inverts}
use Rattle.field_base.proofs.PowerLemmas.{power-add, power-lt, times-one}
use Rattle.field_base.proofs.RingLemmas.{mod-times, times_left_comm, times-zero, zero-times}
use Rattle.field_base.specs.Interpolation.{interpolated, other_factors}
use Rattle.field_base.specs.PolynomialRoots.{AreDistinctBelow}
use Rattle.field_base.proofs.PolynomialCoefficients.{coefficients_of}
use Rattle.field_base.proofs.Interpolation.{factors-lt, factors-nonzero, interpolated-at, interpolated-polynomial}
use Rattle.field_base.proofs.Polynomials.{IsPolynomial, polynomial-same}
use Rattle.error_codes.specs.Checks.{CheckedAreValues, dual_weight, syndrome}
use Rattle.error_codes.specs.Words.{at}
use Rattle.error_codes.proofs.Checks.{power-polynomial, weighted-none}
use Rattle.field_slices.proofs.Counts.{unmarked-count}
use Rattle.error_codes.proofs.Degrees.{without-top}
use Rattle.error_codes.proofs.Moments.{sum-add, sum-same, sum-times, vandermonde}
use Rattle.error_codes.proofs.Products.{polynomial-as, polynomial-most, polynomial-product}

sum-fits : (width : ℕ) (f : ℕ → ℕ) (n : ℕ) → ((i : ℕ) → f i < 2 ^ width) → sum_below f n < 2 ^ width
unfolding sum_below
sum-fits width f zero each = pow_pos width
sum-fits width f (suc n) each = xor_lt width (sum_below f n) (f n) (sum-fits width f n each) (each n)

module _ (width : ℕ) (times : ℕ → ℕ → ℕ) (wide : 0 < width) (field : IsField width times) (last : ℕ) (point : ℕ → ℕ)
    (points : AreDistinctBelow (suc last) (2 ^ width) point) where
  abbrev weight : ℕ → ℕ
  weight i = dual_weight width times (suc last) point i

  one_fits : 1 < 2 ^ width
  one_fits = pow_below 0 width wide

  -- a weight is an inverse
  inverts : (i : ℕ) → i < suc last → times (other_factors times point i (point i) (suc last)) (weight i) ≡ 1
  inverts i within =
      power-inverts width times field wide (other_factors times point i (point i) (suc last))
      (factors-lt width times field wide point i (point i) (suc last))
      (factors-nonzero width times field wide point (suc last) points.below points.differ i within (suc last)
      (omega arith))

  -- the sum that reads the coefficient at the top
  abbrev top_sum : ℕ
  top_sum = sum_below (λ i. times (weight i) (power 1 times (point i) last)) (suc last)

  pub weight-lt : (i : ℕ) → weight i < 2 ^ width
  weight-lt i = power-lt width 1 times field.ring one_fits (other_factors times point i (point i) (suc last))
      (2 ^ width - 2)

  pub weight-nonzero : (i : ℕ) → i < suc last → weight i ≢ 0
  weight-nonzero i within is =
      let one : 0 ≡ 1 =
      sym (times-zero width 1 times field.ring (other_factors times point i (point i) (suc last)))
      ∙ ap (times (other_factors times point i (point i) (suc last))) (sym is) ∙ inverts i within in
      absurd (omega (arith, one))

  top-nonzero : top_sum ≢ 0
  top-nonzero none =
      weight-nonzero 0 (omega arith)
      (vandermonde width times wide field (suc last) point points (suc last) weight (λ i. true) (λ i below. weight-lt i)
      (let all = unmarked-count (λ i. true) (suc last) in
      omega (arith, all)) (λ i below is. absurd (cc)) (λ m below. sums m below (eqb_tells m last)) 0 (omega arith))
    where
      less : (m last : ℕ) → m < suc last → (m ≡ last → ⊥) → suc m ≤ last
      less m last below other = omega (arith, below, other)

      sums : (m : ℕ) → m < suc last → ((nat_eq m last ≡ true) × (m ≡ last)) ⊎ ((nat_eq m last ≡ false) × (m ≡ last → ⊥))
          → sum_below (λ i. times (weight i) (power 1 times (point i) m)) (suc last) ≡ 0
      sums m below (inl same) =
          ap (λ (k : ℕ). sum_below (λ i. times (weight i) (power 1 times (point i) k)) (suc last)) same.1 ∙ none
      sums m below (inr other) =
          weighted-none width times wide field point last points (λ x. power 1 times x m)
          (polynomial-most width times field.ring (suc m) last (λ x. power 1 times x m) (less m last below other.1)
          (power-polynomial width times wide field m))

  -- the sums of the weighted values of f, times so many powers of the points, are 0
  abbrev SumsVanish : ℕ → (ℕ → ℕ) → Type 0
  SumsVanish checks f = (m : ℕ) → m < checks
      → sum_below (λ i. times (weight i) (times (power 1 times (point i) m) (f (point i)))) (suc last) ≡ 0

  -- so the coefficient at the top is 0
  fewer : (c m : ℕ) → m + c ≡ last → (cs : List ℕ) → length cs ≡ suc c
      → sum_below (λ i. times (weight i) (times (power 1 times (point i) m) (at times cs (point i)))) (suc last) ≡ 0
      → IsPolynomial times c (at times cs)
  fewer c m sum cs count none =
      polynomial-same width times field.ring c parts.0 (at times cs)
      (λ x. sym (parts.2 x ∙ ap (bit_xor (parts.0 x)) (nothing (power 1 times x c)) ∙ xor_zero_r (parts.0 x))) parts.1
    where
      parts : (g : ℕ → ℕ) × IsPolynomial times c g × ((x : ℕ)
          → at times cs x ≡ bit_xor (g x) (times (slice_index cs c) (power 1 times x c)))
      parts = without-top width times wide field c cs count

      top : ℕ
      top = slice_index cs c

      -- w (x^m (g + a x^c)) = w (x^m g) + a (w x^(m + c))
      term : (w a xm g xc xl : ℕ) → xl ≡ times xm xc
          → times w (times xm (bit_xor g (times a xc))) ≡ bit_xor (times w (times xm g)) (times a (times w xl))
      term w a xm g xc xl is =
          ap (times w) (field.ring.over_sum xm g (times a xc))
          ∙ field.ring.over_sum w (times xm g) (times xm (times a xc))
          ∙ ap (bit_xor (times w (times xm g)))
          (ap (times w) (times_left_comm width 1 times field.ring xm a xc ∙ ap (times a) (sym is))
          ∙ times_left_comm width 1 times field.ring w a xl)

      all : sum_below (λ i. times (weight i) (times (power 1 times (point i) m) (at times cs (point i))))
          (suc last) ≡ times top top_sum
      all =
          sum-same (λ i. times (weight i) (times (power 1 times (point i) m) (at times cs (point i))))
          (λ i. bit_xor (times (weight i) (times (power 1 times (point i) m) (parts.0 (point i))))
          (times top (times (weight i) (power 1 times (point i) last)))) (suc last)
          (λ i below.
          ap (λ (z : ℕ). times (weight i) (times (power 1 times (point i) m) z)) (parts.2 (point i))
          ∙ term (weight i) top (power 1 times (point i) m) (parts.0 (point i)) (power 1 times (point i) c)
          (power 1 times (point i) last)
          (ap (power 1 times (point i)) (sym sum) ∙ power-add width 1 times field.ring one_fits (point i) m c))
          ∙ sum-add (λ i. times (weight i) (times (power 1 times (point i) m) (parts.0 (point i))))
          (λ i. times top (times (weight i) (power 1 times (point i) last))) (suc last)
          ∙ ap₂ bit_xor
          (weighted-none width times wide field point last points (λ x. times (power 1 times x m) (parts.0 x))
          (polynomial-same width times field.ring last (λ x. times (parts.0 x) (power 1 times x m))
          (λ x. times (power 1 times x m) (parts.0 x))
          (λ x. field.ring.comm (parts.0 x) (power 1 times x m))
          (polynomial-as width times field.ring (c + m) last (λ x. times (parts.0 x) (power 1 times x m))
          (omega (arith, sum))
          (polynomial-product width times field.ring c m parts.0 (λ x. power 1 times x m) parts.1
          (power-polynomial width times wide field m)))))
          (sum-times width times wide field top (λ i. times (weight i) (power 1 times (point i) last)) (suc last))
          ∙ xor_zero_l (times top top_sum)

      fits : (z : ℕ) → z % 2 ^ width < 2 ^ width
      fits z = subst (λ (r : ℕ). r < 2 ^ width) (field.ring.one z) (field.ring.below 1 z)

      sum-lt : (f : ℕ → ℕ) (n : ℕ) → ((i : ℕ) → f i < 2 ^ width) → sum_below f n < 2 ^ width
      sum-lt f n each = sum-fits width f n each

      nothing : (z : ℕ) → times top z ≡ 0
      nothing z =
          elim (no_zero_divisors width times field.ring field.inverses (top % 2 ^ width) top_sum (fits top)
          (sum-lt (λ i. times (weight i) (power 1 times (point i) last)) (suc last)
          (λ i. field.ring.below (weight i) (power 1 times (point i) last)))
          (mod-times width 1 times field.ring top top_sum ∙ sym all ∙ none)) [
            | inl is ↦ sym (mod-times width 1 times field.ring top z) ∙ ap (λ (a : ℕ). times a z) is
                ∙ zero-times width 1 times field.ring z
            | inr is ↦ absurd (top-nonzero is)
          ]

  reduced : (d k checks : ℕ) → d ≤ checks → k + checks ≡ suc last → (f : ℕ → ℕ) → SumsVanish checks f
      → IsPolynomial times (d + k) f → IsPolynomial times k f
  reduced zero k checks most sum f none p = polynomial-as width times field.ring (zero + k) k f (omega arith) p
  reduced (suc d) k checks most sum f none p =
      reduced d k checks (omega (arith, most)) sum f none
      (let list = coefficients_of width times field.ring (suc (d + k)) f
      (polynomial-as width times field.ring (suc d + k) (suc (d + k)) f (omega arith) p) in
      polynomial-same width times field.ring (d + k) (at times list.0) f (λ x. sym (list.2 x))
      (fewer (d + k) (checks - suc d) (omega (arith, most, sum)) list.0 list.1
      (sum-same (λ i. times (weight i) (times (power 1 times (point i) (checks - suc d)) (at times list.0 (point i))))
      (λ i. times (weight i) (times (power 1 times (point i) (checks - suc d)) (f (point i)))) (suc last)
      (λ i below. ap (λ (z : ℕ). times (weight i) (times (power 1 times (point i) (checks - suc d)) z))
      (sym (list.2 (point i))))
      ∙ none (checks - suc d) (omega (arith, most)))))

  module _ (k checks : ℕ) (sum : k + checks ≡ suc last) (scale word : ℕ → ℕ)
      (checked : (m : ℕ) → m < checks → syndrome times (suc last) point scale word m ≡ 0) where
    abbrev value : ℕ → ℕ
    value i = times (times (scale i) (word i)) (other_factors times point i (point i) (suc last))

    abbrev f : ℕ → ℕ
    f x = interpolated width times point value (suc last) x

    value-back : (i : ℕ) → i < suc last → times (weight i) (f (point i)) ≡ times (scale i) (word i)
    value-back i within =
        ap (times (weight i))
        (interpolated-at width times field wide point (suc last) points.below points.differ value i within
        (field.ring.below (times (scale i) (word i)) (other_factors times point i (point i) (suc last))))
        ∙ times_left_comm width 1 times field.ring (weight i) (times (scale i) (word i))
        (other_factors times point i (point i) (suc last))
        ∙ ap (times (times (scale i) (word i))) (field.ring.comm (weight i)
        (other_factors times point i (point i) (suc last)) ∙ inverts i within)
        ∙ times-one width 1 times field.ring (times (scale i) (word i)) (field.ring.below (scale i) (word i))

    pub checked-values : (cs : List ℕ) × (length cs ≡ k)
        × ((i : ℕ) → i < suc last → times (scale i) (word i) ≡ times (weight i) (at times cs (point i)))
    checked-values =
        let list =
        coefficients_of width times field.ring k f
        (reduced checks k checks (omega arith) sum f
        (λ m below.
        sum-same (λ i. times (weight i) (times (power 1 times (point i) m) (f (point i))))
        (λ i. times (times (scale i) (word i)) (power 1 times (point i) m)) (suc last)
        (λ i within.
        times_left_comm width 1 times field.ring (weight i) (power 1 times (point i) m) (f (point i))
        ∙ field.ring.comm (power 1 times (point i) m) (times (weight i) (f (point i)))
        ∙ ap (λ (z : ℕ). times z (power 1 times (point i) m)) (value-back i within))
        ∙ checked m below)
        (polynomial-as width times field.ring (suc last) (checks + k) f (omega (arith, sum))
        (interpolated-polynomial width times field wide point (suc last) points.below points.differ value))) in
        (list.0, list.1, λ i within. sym (value-back i within) ∙ ap (times (weight i)) (list.2 (point i)))

pub checked_are_values : CheckedAreValues
checked_are_values width times wide field k checks zero point scale word points sum checked =
    let list = zero-list k (omega (arith, sum)) in (list.0, list.1, λ i within. absurd (omega (arith, within)))
  where
    zero-list : (k : ℕ) → k ≡ 0 → (cs : List ℕ) × (length cs ≡ k)
    zero-list zero is = ([], refl)
    zero-list (suc k) is = absurd (omega (arith, is))
checked_are_values width times wide field k checks (suc last) point scale word points sum checked =
    checked-values width times wide field last point points k checks sum scale word checked
