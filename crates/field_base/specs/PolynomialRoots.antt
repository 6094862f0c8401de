-- Roots of polynomials over a field whose elements are numbers (R. Lidl and H. Niederreiter, Finite Fields, theorem 1.66). A
-- polynomial is the list of its coefficients, the lowest first, and `value_of` is its value at a point.
use Rattle.std.specs.Prelude.{◌≡◌, ℕ, ◌%◌, ◌^◌, ◌<◌, ◌≤◌, List, length, slice_index}
use Rattle.field_base.specs.Field.{IsField}
use Rattle.field_base.specs.Powers.{value_of}

-- choice 0, choice 1, .., choice (count - 1) are different numbers below `bound`: elements of a field of so many elements, or
-- places of a list of that length
pub record AreDistinctBelow (count bound : ℕ) (choice : ℕ → ℕ) : Type 0 where
  pub below : (i : ℕ) → i < count → choice i < bound
  pub differ : (i j : ℕ) → i < count → j < count → choice i ≡ choice j → i ≡ j

-- a polynomial is 0: each coefficient is, and each value
pub record IsZeroPolynomial (width : ℕ) (times : ℕ → ℕ → ℕ) (coefficients : List ℕ) : Type 0 where
  pub each_coefficient : (i : ℕ) → i < length coefficients → slice_index coefficients i % 2 ^ width ≡ 0
  pub each_value : (x : ℕ) → value_of 1 times (λ c. c) coefficients x ≡ 0

-- a polynomial of at most n coefficients that is 0 at n different points is 0: one of degree n - 1 has at most n - 1 roots
abbrev pub ManyRootsMeanZero : Type 0
ManyRootsMeanZero = (width : ℕ) (times : ℕ → ℕ → ℕ) (n : ℕ) (coefficients : List ℕ) (point : ℕ → ℕ)
    → 0 < width → IsField width times → length coefficients ≤ n → AreDistinctBelow n (2 ^ width) point
    → ((i : ℕ) → i < n → value_of 1 times (λ c. c) coefficients (point i) ≡ 0)
    → IsZeroPolynomial width times coefficients
