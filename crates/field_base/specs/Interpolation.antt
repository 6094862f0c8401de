-- The interpolation of J. L. Lagrange (Leçons élémentaires sur les mathématiques, 1795) over a field whose elements are
-- numbers: the value at x of the polynomial of k coefficients that has given values at k points. Sums are `bit_xor`, and a
-- difference is a sum.
use Rattle.std.specs.Prelude.{◌≡◌, ℕ, ◌==◌, ◌-◌, ◌^◌, ◌<◌, List, length, if◌then◌else◌, bit_xor}
use Rattle.field_base.specs.Basis.{sum_below, product_below}
use Rattle.field_base.specs.Field.{IsField}
use Rattle.field_base.specs.Powers.{power, value_of}
use Rattle.field_base.specs.PolynomialRoots.{AreDistinctBelow}

-- the product of the differences x - point i over the places i below n, without place `own`
abbrev pub other_factors : (ℕ → ℕ → ℕ) → (ℕ → ℕ) → ℕ → ℕ → ℕ → ℕ
other_factors times point own x n = product_below times (λ i. if i == own then 1 else bit_xor x (point i)) n

-- the polynomial that is 1 at point `own` and 0 at the other points, at x: the product of (x - point i) / (point own - point i)
-- over i ≠ own, where the inverse is a power (Fermat)
abbrev pub lagrange : ℕ → (ℕ → ℕ → ℕ) → (ℕ → ℕ) → ℕ → ℕ → ℕ → ℕ
lagrange width times point k own x =
    times (other_factors times point own x k) (power 1 times (other_factors times point own (point own) k) (2 ^ width - 2))

-- the value at x of the polynomial through the k points with these values
abbrev pub interpolated : ℕ → (ℕ → ℕ → ℕ) → (ℕ → ℕ) → (ℕ → ℕ) → ℕ → ℕ → ℕ
interpolated width times point value k x = sum_below (λ j. times (lagrange width times point k j x) (value j)) k

-- what the formula gives for k points: it has the values at the points, it is a polynomial of k coefficients, and each
-- polynomial of k coefficients with those values is it
pub record InterpolatesPoints (width : ℕ) (times : ℕ → ℕ → ℕ) (k : ℕ) (point value : ℕ → ℕ) : Type 0 where
  pub at_points : (i : ℕ) → i < k → interpolated width times point value k (point i) ≡ value i
  pub coefficients : List ℕ
  pub count : length coefficients ≡ k
  pub is_polynomial : (x : ℕ) → interpolated width times point value k x ≡ value_of 1 times (λ c. c) coefficients x
  pub is_only : (others : List ℕ) → length others ≡ k
      → ((i : ℕ) → i < k → value_of 1 times (λ c. c) others (point i) ≡ value i)
      → (x : ℕ) → value_of 1 times (λ c. c) others x ≡ interpolated width times point value k x

-- it does so for all points that differ, in every field
abbrev pub LagrangeInterpolates : Type 0
LagrangeInterpolates = (width : ℕ) (times : ℕ → ℕ → ℕ) (k : ℕ) (point value : ℕ → ℕ)
    → 0 < width → IsField width times → AreDistinctBelow k (2 ^ width) point → ((i : ℕ) → i < k → value i < 2 ^ width)
    → InterpolatesPoints width times k point value
