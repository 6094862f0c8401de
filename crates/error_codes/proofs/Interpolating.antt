-- Polynomials through shares: the factors that sum them, and that all polynomials through enough shares are one.
use Rattle.std.proofs.Common.{◌≡◌, ℕ, ◌^◌, ◌<◌, ◌≤◌, inl, inr, List, sym, ◌∙◌, ap, arith, lit<}
use Rattle.std.specs.Prelude.{slice_index}
use Rattle.std.proofs.lemmas.Bool.{cases_lt}
use Rattle.field_base.specs.Basis.{sum_below}
use Rattle.field_base.specs.Interpolation.{InterpolatesPoints, interpolated, lagrange}
use Rattle.field_base.specs.PolynomialRoots.{AreDistinctBelow}
use Rattle.field_base.specs.Powers.{value_of}
use Rattle.field_base.proofs.BasisSums.{sum_below-same}
use Rattle.field_base.proofs.Codewords.{lagrange_interpolates}
use Rattle.reed_solomon.specs.ByteFields.{byte_times}
use Rattle.reed_solomon.proofs.ByteFields.{bytes_are_fields}
use Rattle.error_codes.specs.Sharing.{IsThrough}
use Rattle.reed_solomon.specs.declared.byte_field.ByteField.{ByteField}

-- a sum by Lagrange's factors is the value of the polynomial
pub weighed : (field : ByteField) (factors : List ℕ) (point value : ℕ → ℕ) (k x sum : ℕ)
    → sum ≡ sum_below (λ i. byte_times field (slice_index factors i) (value i)) k
    → ((i : ℕ) → i < k → slice_index factors i ≡ lagrange 8 (byte_times field) point k i x)
    → sum ≡ interpolated 8 (byte_times field) point value k x
weighed field factors point value k x sum is factors_are =
    is
    ∙ sum_below-same (λ i. byte_times field (slice_index factors i) (value i))
    (λ i. byte_times field (lagrange 8 (byte_times field) point k i x) (value i)) k
    (λ i below. ap (λ (z : ℕ). byte_times field z (value i)) (factors_are i below))

module _ (field : ByteField) (k count : ℕ) (point value : ℕ → ℕ) (enough : k ≤ count)
    (distinct : AreDistinctBelow count (2 ^ 8) point) (fits : (i : ℕ) → value i < 2 ^ 8) where
  some : AreDistinctBelow k (2 ^ 8) point
  some = record {
    below = λ i within. distinct.below i (omega (arith, within, enough));
    differ = λ i j i_within j_within same. distinct.differ i j (omega (arith, i_within, enough)) (omega (arith, j_within, enough)) same;
  }

  given : InterpolatesPoints 8 (byte_times field) k point value
  given = lagrange_interpolates 8 (byte_times field) k point value (lit< tt) (bytes_are_fields field) some (λ i within. fits i)

  -- where the others have the values of the polynomial through the first k points, it goes through all
  pub through_all : ((i : ℕ) → i < count → k ≤ i → interpolated 8 (byte_times field) point value k (point i) ≡ value i)
      → (cs : List ℕ) × IsThrough field k count point value cs
  through_all others = (
    given.coefficients,
    record {
      coefficient_count = given.count;
      at_points = λ i within.
          elim (cases_lt i k) [
            | inl first ↦ sym (given.is_polynomial (point i)) ∙ given.at_points i first
            | inr later ↦ sym (given.is_polynomial (point i)) ∙ others i within later
          ];
    },
  )

  -- and every polynomial of k coefficients through all is it
  pub is_through : (cs : List ℕ) → IsThrough field k count point value cs → (x : ℕ)
      → value_of 1 (byte_times field) (λ c. c) cs x ≡ interpolated 8 (byte_times field) point value k x
  is_through cs through x = given.is_only cs through.coefficient_count (λ i within. through.at_points i (omega (arith, within, enough))) x
