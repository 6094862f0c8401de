-- Strips of shards, the `width` columns from column `start` on, in rows of as many words: transformed, and read and written row by row.
use Rattle.std.specs.Prelude.{◌≡◌, ◌≢◌, ◌⊎◌, ℕ, ◌+◌, ◌*◌, ◌^◌, ◌<◌, ◌≤◌, Bool, List, map, slice_index, slice_index_or}
use Rattle.additive_transforms.specs.Columns.{column_of}
use Rattle.additive_transforms.specs.Transform.{AreTheCoefficients, HoldValuesAtPoints}
use Rattle.field_base.specs.Tower.{tower_mul}
use Rattle.ghash_slices.specs.Cantor.{point, polynomial_value}
use Rattle.word_tables.specs.Cantor.{cantor_vector}
use Rattle.reed_solomon.specs.Codes.{shard_symbol, value_at}
use Rattle.reed_solomon.specs.Derivatives.{derived}

-- what coded columns need: words of k shards and of m of parity, where the level has the points
pub record FitEncoding (level n k m size words parity_words : ℕ) : Type 0 where
  pub points : n ≤ 2 ^ level
  pub room : 2 ^ n + m ≤ 2 ^ 2 ^ level
  pub whole : words ≡ k * size
  pub parity_whole : parity_words ≡ m * size

-- in column c of rows of `columns` words they have as their elements the values, at the points of a level from z on, of the polynomial with
-- the elements of that column of other words as coefficients
abbrev pub HoldWordValues : {W : Type 0} → (W → ℕ) → ℕ → ℕ → ℕ → ℕ → List W → List W → Type 0
HoldWordValues element level z columns c coefficients values =
    HoldValuesAtPoints (2 ^ level) (tower_mul level) cantor_vector z (column_of columns c (map element coefficients))
    (column_of columns c (map element values))

-- in column c the first 2 ^ few rows have the values, at the first 2 ^ few of those points, of the polynomial with the 2 ^ n elements of that
-- column of other words as coefficients
abbrev pub HoldFirstValues : {W : Type 0} → (W → ℕ) → W → ℕ → ℕ → ℕ → ℕ → ℕ → ℕ → List W → List W → Type 0
HoldFirstValues element zero level n few z columns c coefficients values =
    (p : ℕ) → p < 2 ^ few → element (slice_index_or values (p * columns + c) zero)
    ≡ polynomial_value (tower_mul level) n (slice_index (column_of columns c (map element coefficients))) (point (2 ^ level) cantor_vector z p)

-- they have the coefficients of the one polynomial that has the elements of that column of other words as its values there
abbrev pub AreWordCoefficients : {W : Type 0} → (W → ℕ) → ℕ → ℕ → ℕ → ℕ → List W → List W → Type 0
AreWordCoefficients element level z columns c values coefficients =
    AreTheCoefficients (2 ^ level) (tower_mul level) cantor_vector z (column_of columns c (map element values))
    (column_of columns c (map element coefficients))

-- `count` words from place `place` on are the given ones, and all others are as they were
pub record ArePutWords {W : Type 0} (zero : W) (place count : ℕ) (word : ℕ → W) (old new : List W) : Type 0 where
  pub written : (c : ℕ) → c < count → slice_index_or new (place + c) zero ≡ word c
  pub kept : (p : ℕ) → (p < place) ⊎ (place + count ≤ p) → slice_index_or new p zero ≡ slice_index_or old p zero

-- they were multiplied by a factor, and all others are as they were
pub record ArePutProducts {W : Type 0} (number : W → ℕ) (zero : W) (level place count factor : ℕ) (old new : List W) : Type 0 where
  pub product : (c : ℕ) → c < count
      → number (slice_index_or new (place + c) zero) ≡ tower_mul level (number (slice_index_or old (place + c) zero)) factor
  pub kept : (p : ℕ) → (p < place) ⊎ (place + count ≤ p) → slice_index_or new p zero ≡ slice_index_or old p zero

-- each of so many rows of `width` words was multiplied by the factor at its place where `lost` is `which` there, and the others became 0
pub record AreRowProducts {W : Type 0} (number : W → ℕ) (zero : W) (level width rows : ℕ) (lost : ℕ → Bool) (which : Bool) (factors old new : List W)
    : Type 0 where
  pub product : (p c : ℕ) → p < rows → c < width → lost p ≡ which
      → number (slice_index_or new (p * width + c) zero)
      ≡ tower_mul level (number (slice_index_or old (p * width + c) zero)) (number (slice_index_or factors p zero))
  pub nothing : (p c : ℕ) → p < rows → c < width → lost p ≢ which → slice_index_or new (p * width + c) zero ≡ zero

-- in each column of 2 ^ n rows of `width` words, the numbers of the words in the first 2 ^ few rows became those of the coefficients of the
-- derivative of the polynomial with the numbers before as its coefficients
abbrev pub AreFirstDerivedRows : {W : Type 0} → (W → ℕ) → W → ℕ → ℕ → ℕ → List W → List W → Type 0
AreFirstDerivedRows number zero n few width old new =
    (k c : ℕ) → k < 2 ^ few → c < width
    → number (slice_index_or new (k * width + c) zero) ≡ derived n (λ i. number (slice_index_or old (i * width + c) zero)) k

-- those in all rows did
abbrev pub AreDerivedRows : {W : Type 0} → (W → ℕ) → W → ℕ → ℕ → List W → List W → Type 0
AreDerivedRows number zero n width old new = AreFirstDerivedRows number zero n n width old new

-- the first `until` rows hold the words of a strip of `count` shards, and zeros behind them
abbrev pub HoldStrip : {W : Type 0} → W → ℕ → ℕ → ℕ → ℕ → List W → ℕ → List W → Type 0
HoldStrip zero count size start width shards until values =
    (i c : ℕ) → i < until → c < width
    → (i < count → slice_index_or values (i * width + c) zero ≡ slice_index_or shards (i * size + (start + c)) zero)
    × (count ≤ i → slice_index_or values (i * width + c) zero ≡ zero)

-- the rows from row `from` on, of so many rows of `columns` words, hold zeros
abbrev pub HoldZeros : {W : Type 0} → W → ℕ → ℕ → ℕ → List W → Type 0
HoldZeros zero columns from rows words =
    (i c : ℕ) → from ≤ i → i < rows → c < columns → slice_index_or words (i * columns + c) zero ≡ zero

-- column c is none of a strip
abbrev pub IsOutside : ℕ → ℕ → ℕ → Type 0
IsOutside start width c = (c < start) ⊎ (start + width ≤ c)

-- the words of a strip of the `taken` shards from shard `first` on are the rows, and all other words of shards are as they were
pub record AreScattered {W : Type 0} (zero : W) (size start width first taken : ℕ) (values old new : List W) : Type 0 where
  pub written : (t c : ℕ) → t < taken → c < width
      → slice_index_or new ((first + t) * size + (start + c)) zero ≡ slice_index_or values (t * width + c) zero
  pub kept : (i c : ℕ) → c < size → (IsOutside start width c) ⊎ ((i < first) ⊎ (first + taken ≤ i))
      → slice_index_or new (i * size + c) zero ≡ slice_index_or old (i * size + c) zero

-- the other columns are as they were
abbrev pub OthersAreKept : {W : Type 0} → W → ℕ → ℕ → ℕ → List W → List W → Type 0
OthersAreKept zero size start width old new =
    (i c : ℕ) → c < size → IsOutside start width c → slice_index_or new (i * size + c) zero ≡ slice_index_or old (i * size + c) zero

-- in one column the shards of parity before shard `until`, of m, have the values of the polynomial at their points
abbrev pub AreParityBelow : {W : Type 0} → (W → ℕ) → W → ℕ → ℕ → ℕ → ℕ → ℕ → List ℕ → ℕ → List W → Type 0
AreParityBelow element zero level n m size column coefficients until parity =
    (t : ℕ) → t < until → t < m → shard_symbol element zero size parity column t ≡ value_at level n coefficients (2 ^ n + t)
