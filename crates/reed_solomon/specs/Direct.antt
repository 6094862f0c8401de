-- Lost symbols as sums of multiples of the known ones: of a polynomial of fewer than 2 ^ r - 1 coefficients the values at the 2 ^ r points that
-- Cantor vectors span add up to 0 (J. L. Lagrange's interpolation, whose weights the locators give).
use Rattle.std.specs.Prelude.{◌≡◌, ◌≢◌, ◌⊎◌, ℕ, ◌+◌, ◌^◌, ◌<◌, ◌≤◌, Bool, true, false, List, if◌then◌else◌, slice_index_or, bit_xor}
use Rattle.field_base.specs.Basis.{sum_below}
use Rattle.field_base.specs.Tower.{tower_mul}
use Rattle.ghash_slices.specs.Cantor.{point, polynomial_value}
use Rattle.word_tables.specs.Cantor.{cantor_vector}
use Rattle.reed_solomon.specs.Columns.{IsOutside}
use Rattle.reed_solomon.specs.Locators.{locator, others_lost}
use Rattle.reed_solomon.specs.Restoring.{word_at}

-- what place q adds: nothing where it is lost, and else the product of its weight and its word
abbrev pub known_term : (ℕ → ℕ → ℕ) → (ℕ → Bool) → (ℕ → ℕ) → (ℕ → ℕ) → ℕ → ℕ
known_term times lost weight word q = if lost q then 0 else times (weight q) (word q)

-- the sum of these over the places before place `until`, of words and weights
abbrev pub known_sum : {W : Type 0} → (W → ℕ) → W → ℕ → (ℕ → Bool) → List W → (ℕ → W) → ℕ → ℕ
known_sum number zero level lost weights word until =
    sum_below (known_term (tower_mul level) lost (λ q. number (slice_index_or weights q zero)) (λ q. number (word q))) until

-- the words are the weights of the known places before place `until`, of 2 ^ r, for lost place p: a factor, times the locator of the other lost
-- ones
abbrev pub AreKnownWeights : {W : Type 0} → (W → ℕ) → W → ℕ → ℕ → (ℕ → Bool) → ℕ → ℕ → ℕ → List W → Type 0
AreKnownWeights number zero level r lost p factor until weights =
    (q : ℕ) → q < until → lost q ≡ false → number (slice_index_or weights q zero)
    ≡ tower_mul level factor (locator (tower_mul level) (point (2 ^ level) cantor_vector 0) (others_lost lost p) (2 ^ r)
    (point (2 ^ level) cantor_vector 0 q))

-- products of a factor and words from word `from` on were added to the words before word `until`, and the others are as they were
pub record AreAddedProducts {W : Type 0} (number : W → ℕ) (zero : W) (level factor from until : ℕ) (words old new : List W) : Type 0 where
  pub added : (c : ℕ) → c < until → number (slice_index_or new c zero)
      ≡ bit_xor (number (slice_index_or old c zero)) (tower_mul level factor (number (slice_index_or words (from + c) zero)))
  pub kept : (c : ℕ) → until ≤ c → slice_index_or new c zero ≡ slice_index_or old c zero

-- the words of the strip at place p are the row, and all others are as they were
pub record ArePutAtPlace {W : Type 0} (zero : W) (k n m size start width p : ℕ) (row old old_parity new new_parity : List W) : Type 0 where
  pub written : (c : ℕ) → c < width → word_at zero k n m size (start + c) new new_parity p ≡ slice_index_or row c zero
  pub kept : (q c : ℕ) → c < size → (q ≢ p) ⊎ (IsOutside start width c)
      → word_at zero k n m size c new new_parity q ≡ word_at zero k n m size c old old_parity q

-- the words at place p in the columns before column `until` are the sums over the known places, and all others are as they were
pub record IsSummedPlace {W : Type 0} (number : W → ℕ) (zero : W) (level k n m size r p : ℕ) (lost : ℕ → Bool) (weights : List W) (until : ℕ)
    (old old_parity new new_parity : List W) : Type 0 where
  pub summed : (c : ℕ) → c < until → number (word_at zero k n m size c new new_parity p)
      ≡ known_sum number zero level lost weights (word_at zero k n m size c old old_parity) (2 ^ r)
  pub kept : (q c : ℕ) → c < size → (q ≢ p) ⊎ (until ≤ c)
      → word_at zero k n m size c new new_parity q ≡ word_at zero k n m size c old old_parity q

-- if place p is lost, the words there become the values of each polynomial of 2 ^ n coefficients whose values all known ones are; those at all
-- other places, and at known ones, are as they were
pub record IsRestoredPlace {W : Type 0} (element : W → ℕ) (zero : W) (level k n m size : ℕ) (lost : ℕ → Bool) (p : ℕ)
    (old old_parity new new_parity : List W) : Type 0 where
  pub restored : (c : ℕ) → c < size → lost p ≡ true → (coefficients : ℕ → ℕ)
      → ((q : ℕ) → lost q ≡ false → element (word_at zero k n m size c old old_parity q)
      ≡ polynomial_value (tower_mul level) n coefficients (point (2 ^ level) cantor_vector 0 q))
      → element (word_at zero k n m size c new new_parity p)
      ≡ polynomial_value (tower_mul level) n coefficients (point (2 ^ level) cantor_vector 0 p)
  pub kept : (q c : ℕ) → c < size → (lost q ≡ false) ⊎ (q ≢ p)
      → word_at zero k n m size c new new_parity q ≡ word_at zero k n m size c old old_parity q

-- that was done at the places before place `until`
pub record AreRestoredPlaces {W : Type 0} (element : W → ℕ) (zero : W) (level k n m size : ℕ) (lost : ℕ → Bool) (until : ℕ)
    (old old_parity new new_parity : List W) : Type 0 where
  pub restored : (q c : ℕ) → q < until → c < size → lost q ≡ true → (coefficients : ℕ → ℕ)
      → ((p : ℕ) → lost p ≡ false → element (word_at zero k n m size c old old_parity p)
      ≡ polynomial_value (tower_mul level) n coefficients (point (2 ^ level) cantor_vector 0 p))
      → element (word_at zero k n m size c new new_parity q)
      ≡ polynomial_value (tower_mul level) n coefficients (point (2 ^ level) cantor_vector 0 q)
  pub kept : (q c : ℕ) → c < size → (lost q ≡ false) ⊎ (until ≤ q)
      → word_at zero k n m size c new new_parity q ≡ word_at zero k n m size c old old_parity q
