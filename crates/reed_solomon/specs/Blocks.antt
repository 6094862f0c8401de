-- Locators of the lost symbols among a block of places, at the points of the first words of a slice: they are made by products, and from
-- values at fewer points.
use Rattle.std.specs.Prelude.{◌≡◌, ◌≢◌, ◌⊎◌, ℕ, ◌+◌, ◌^◌, ◌<◌, ◌≤◌, Bool, true, false, List, length, slice_index, slice_index_or, bit_xor}
use Rattle.field_base.specs.Tower.{tower_mul}
use Rattle.ghash_slices.specs.Cantor.{point, polynomial_value}
use Rattle.word_tables.specs.Cantor.{cantor_vector}
use Rattle.reed_solomon.specs.Codes.{value_at}
use Rattle.reed_solomon.specs.Derivatives.{derived}
use Rattle.reed_solomon.specs.Locators.{locator}
use Rattle.reed_solomon.specs.Restoring.{is_lost}

-- the locator, at x, of the symbols that are lost among `count` places from place `first` on
abbrev pub block_locator : ℕ → ℕ → ℕ → ℕ → List Bool → ℕ → ℕ → ℕ → ℕ
block_locator level k n m present first count x =
    locator (tower_mul level) (λ p. point (2 ^ level) cantor_vector 0 (first + p)) (λ p. is_lost k n m present (first + p)) count x

-- words have its values at points 0, 1, ..
abbrev pub HoldLocator : {W : Type 0} → (W → ℕ) → W → ℕ → ℕ → ℕ → ℕ → List Bool → ℕ → ℕ → List W → Type 0
HoldLocator element zero level k n m present first count values =
    (i : ℕ) → i < length values
    → element (slice_index_or values i zero) ≡ block_locator level k n m present first count (point (2 ^ level) cantor_vector 0 i)

-- a polynomial of 2 ^ n coefficients has known values at the first 2 ^ n points, and others at the next
pub record AreExtended {W : Type 0} (element : W → ℕ) (zero : W) (level n : ℕ) (known others : List W) : Type 0 where
  pub coefficients : List ℕ
  pub first : (p : ℕ) → p < 2 ^ n → element (slice_index_or known p zero) ≡ value_at level n coefficients p
  pub next : (p : ℕ) → p < 2 ^ n → element (slice_index_or others p zero) ≡ value_at level n coefficients (2 ^ n + p)

-- a polynomial of 2 ^ n coefficients has known values at the first 2 ^ n points, and its derivative has others there
pub record AreSlopes {W : Type 0} (element : W → ℕ) (zero : W) (level n : ℕ) (known slopes : List W) : Type 0 where
  pub coefficients : List ℕ
  pub values : (p : ℕ) → p < 2 ^ n → element (slice_index_or known p zero) ≡ value_at level n coefficients p
  pub derivative : (p : ℕ) → p < 2 ^ n → element (slice_index_or slopes p zero)
      ≡ polynomial_value (tower_mul level) n (derived n (slice_index coefficients)) (point (2 ^ level) cantor_vector 0 p)

-- the words before word `until` were multiplied by the difference of x and the point at their place, and the others are as they were
pub record AreDifferences {W : Type 0} (number : W → ℕ) (zero : W) (level x until : ℕ) (points old new : List W) : Type 0 where
  pub multiplied : (i : ℕ) → i < until → number (slice_index_or new i zero)
      ≡ tower_mul level (bit_xor (number (slice_index_or points i zero)) x) (number (slice_index_or old i zero))
  pub kept : (i : ℕ) → until ≤ i → slice_index_or new i zero ≡ slice_index_or old i zero

-- the words before word `until` at lost places became the inverses of the elements of other words, where those were not 0, and all others are
-- as they were
pub record AreInverted {W : Type 0} (element number : W → ℕ) (zero : W) (level : ℕ) (lost : ℕ → Bool) (until : ℕ) (slopes old new : List W)
    : Type 0 where
  pub inverse : (p : ℕ) → p < until → lost p ≡ true → element (slice_index_or slopes p zero) ≢ 0
      → tower_mul level (element (slice_index_or slopes p zero)) (number (slice_index_or new p zero)) ≡ 1
  pub kept : (p : ℕ) → (lost p ≡ false) ⊎ (until ≤ p) → slice_index_or new p zero ≡ slice_index_or old p zero
