-- What a whole transform leaves, over any field with Cantor vectors, and over that of GHASH.
use Rattle.std.specs.Prelude.{◌≡◌, ℕ, ◌+◌, ◌-◌, ◌*◌, ◌^◌, ◌<◌, ◌≤◌, Bool, List, cond, length, slice_index}
use Rattle.ghash_slices.specs.LowStages.{ghash_cantor_vector, ghash_product}
use Rattle.ghash_slices.specs.Cantor.{point, polynomial_value}

-- a transform of so many values has m stages
abbrev pub HasStages : ℕ → ℕ → Type 0
HasStages m values = (m ≤ 40) × (values ≡ 2 ^ m)

-- it has some number m of stages, and with its m * 2 ^ (m - 1) pairs the count still fits 64 bits
abbrev pub FitsTransform : ℕ → ℕ → Type 0
FitsTransform values count = (m : ℕ) × HasStages m values × (count + m * 2 ^ (m - 1) < 2 ^ 64)

-- the count rises by those pairs
abbrev pub CountsPairs : ℕ → ℕ → ℕ → Type 0
CountsPairs values old new = (m : ℕ) → values ≡ 2 ^ m → new ≡ old + m * 2 ^ (m - 1)

-- place p of the values is the value at point p of the polynomial with these coefficients, in a ring of `width` bits with these
-- vectors: point p is z, and vector b for each set bit b of p
abbrev pub HoldValuesAtPoints : ℕ → (ℕ → ℕ → ℕ) → (ℕ → ℕ) → ℕ → List ℕ → List ℕ → Type 0
HoldValuesAtPoints width times vector z coefficients values =
    (m : ℕ) → length coefficients ≡ 2 ^ m → (p : ℕ) → p < 2 ^ m
    → slice_index values p ≡ polynomial_value times m (slice_index coefficients) (point width vector z p)

-- the transform takes the values `old` to `new`, or, where `inverse` is true, the inverse one does, which the transform takes back
abbrev pub TakesTransform : Bool → ℕ → (ℕ → ℕ → ℕ) → (ℕ → ℕ) → ℕ → List ℕ → List ℕ → Type 0
TakesTransform inverse width times vector z old new =
    HoldValuesAtPoints width times vector z (cond inverse new old) (cond inverse old new)

-- these coefficients have those values, and no other list of as many elements has them
pub record AreTheCoefficients (width : ℕ) (times : ℕ → ℕ → ℕ) (vector : ℕ → ℕ) (z : ℕ) (values coefficients : List ℕ) : Type 0 where
  pub have : HoldValuesAtPoints width times vector z coefficients values
  pub only : (others : List ℕ) → length others ≡ length values → ((p : ℕ) → slice_index others p < 2 ^ width)
      → HoldValuesAtPoints width times vector z others values → others ≡ coefficients

-- `HoldValuesAtPoints` in the field of GHASH
abbrev pub HoldPolynomialValues : ℕ → List ℕ → List ℕ → Type 0
HoldPolynomialValues = HoldValuesAtPoints 128 ghash_product ghash_cantor_vector

-- `AreTheCoefficients` in the field of GHASH
abbrev pub AreOnlyCoefficients : ℕ → List ℕ → List ℕ → Type 0
AreOnlyCoefficients = AreTheCoefficients 128 ghash_product ghash_cantor_vector
