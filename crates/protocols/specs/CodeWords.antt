-- Reed-Solomon code words (I. S. Reed and G. Solomon, Polynomial codes over certain finite fields, 1960) at the points that Cantor
-- vectors span. A symbol is an element of a field of `width` bits, and point p is the sum of vector b for each set bit b of p.
use Rattle.std.specs.Prelude.{◌≡◌, ℕ, ◌+◌, ◌*◌, ◌^◌, ◌<◌, ◌≤◌, List, length, slice_index}
use Rattle.field_base.specs.Field.{IsField}
use Rattle.field_base.specs.Orders.{AreCantorVectors}
use Rattle.field_base.specs.PolynomialRoots.{AreDistinctBelow}
use Rattle.ghash_slices.specs.Cantor.{point, polynomial_value}
use Rattle.ghash_slices.specs.LowStages.{ghash_cantor_vector, ghash_product}

-- 2 ^ (r + k) symbols, the values at points 0, 1, .. of one polynomial of 2 ^ k coefficients: the rate of the code is 1 / 2 ^ r
pub record IsCodeWordOf (width : ℕ) (times : ℕ → ℕ → ℕ) (vector : ℕ → ℕ) (k r : ℕ) (word : List ℕ) : Type 0 where
  pub size : length word ≡ 2 ^ r * 2 ^ k
  pub coefficients : List ℕ
  pub count : length coefficients ≡ 2 ^ k
  pub values : (p : ℕ) → p < 2 ^ r * 2 ^ k
      → slice_index word p ≡ polynomial_value times k (slice_index coefficients) (point width vector 0 p)

-- the code of rate 1 / 2 over the field of GHASH: 2 ^ (k + 1) symbols
abbrev pub IsCodeWord : ℕ → List ℕ → Type 0
IsCodeWord k = IsCodeWordOf 128 ghash_product ghash_cantor_vector k 1

-- two code words that have the same symbols at 2 ^ k different places are the same: as many symbols as the message has determine
-- the others, in every field with Cantor vectors and at every rate for which it has the points
abbrev pub PartsDetermine : Type 0
PartsDetermine =
    (width : ℕ) (times : ℕ → ℕ → ℕ) (vector : ℕ → ℕ) → 0 < width → IsField width times → AreCantorVectors width times vector
    → ((b : ℕ) → b < width → vector b < 2 ^ width)
    → (k r : ℕ) (one other : List ℕ) (place : ℕ → ℕ) → r + k ≤ width
    → IsCodeWordOf width times vector k r one → IsCodeWordOf width times vector k r other
    → AreDistinctBelow (2 ^ k) (2 ^ r * 2 ^ k) place
    → ((i : ℕ) → i < 2 ^ k → slice_index one (place i) ≡ slice_index other (place i)) → one ≡ other
