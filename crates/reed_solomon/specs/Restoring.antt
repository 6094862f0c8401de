-- Shards that are lost, and what restores them.
use Rattle.std.specs.Prelude.{◌≡◌, ◌⊎◌, ℕ, ◌+◌, ◌-◌, ◌*◌, ◌^◌, ◌<◌, ◌≤◌, Bool, true, false, not, List, length, if◌then◌else◌, nat_lt, slice_index_or}
use Rattle.field_base.specs.Tower.{tower_mul}
use Rattle.ghash_slices.specs.Cantor.{point}
use Rattle.word_tables.specs.Cantor.{cantor_vector}
use Rattle.reed_solomon.specs.Codes.{IsCodedColumn, shard_symbol}
use Rattle.reed_solomon.specs.Columns.{IsOutside}
use Rattle.reed_solomon.specs.Locators.{locator, lost_count, others_lost}

-- shard i is at hand
abbrev pub IsAtHand : List Bool → ℕ → Type 0
IsAtHand present i = slice_index_or present i false ≡ true

-- whether shard i is missing
abbrev pub is_missing : List Bool → ℕ → Bool
is_missing present i = not (slice_index_or present i false)

-- whether the symbol at point p is lost: that of a shard which is not at hand, or of none behind the parity; the padding is known
abbrev pub is_lost : ℕ → ℕ → ℕ → List Bool → ℕ → Bool
is_lost k n m present p =
    if nat_lt p k then not (slice_index_or present p false)
    else if nat_lt p (2 ^ n) then false
    else if nat_lt p (2 ^ n + m) then not (slice_index_or present (k + (p - 2 ^ n)) false)
    else true

-- the value at x of the locator of those among the first `count` points
abbrev pub missing_locator : ℕ → ℕ → ℕ → ℕ → List Bool → ℕ → ℕ → ℕ
missing_locator level k n m present count x = locator (tower_mul level) (point (2 ^ level) cantor_vector 0) (is_lost k n m present) count x

-- the words are points 0, 1, ..
abbrev pub ArePoints : {W : Type 0} → (W → ℕ) → W → ℕ → List W → Type 0
ArePoints number zero level points =
    (p : ℕ) → p < length points → number (slice_index_or points p zero) ≡ point (2 ^ level) cantor_vector 0 p

-- the value at point p of the locator of the others
abbrev pub other_locator : ℕ → ℕ → ℕ → ℕ → List Bool → ℕ → ℕ → ℕ
other_locator level k n m present count p =
    let at : ℕ → ℕ = point (2 ^ level) cantor_vector 0 in
    locator (tower_mul level) at (others_lost (is_lost k n m present) p) count (at p)

-- the factor of point p: the locator's value there, or, where the symbol is lost, the inverse of that of the others
pub record IsFactor (level k n m : ℕ) (present : List Bool) (count p factor : ℕ) : Type 0 where
  pub known : is_lost k n m present p ≡ false → factor ≡ missing_locator level k n m present count (point (2 ^ level) cantor_vector 0 p)
  pub lost : is_lost k n m present p ≡ true → tower_mul level (other_locator level k n m present count p) factor ≡ 1

-- the words are the factors of the first `count` points
abbrev pub AreFactors : {W : Type 0} → (W → ℕ) → W → ℕ → ℕ → ℕ → ℕ → List Bool → ℕ → List W → Type 0
AreFactors number zero level k n m present count factors =
    (p : ℕ) → p < count → IsFactor level k n m present count p (number (slice_index_or factors p zero))

-- what restored columns need: words of k shards and of m of parity, with a flag for each, 2 ^ r points, which the level has, no more lost
-- symbols among them than leave as many as a polynomial has coefficients, and the factors of all
pub record FitRestoring {W : Type 0} (number : W → ℕ) (zero : W) (level n k m size r : ℕ) (present : List Bool) (words parity_words : ℕ)
    (factors : List W) : Type 0 where
  pub flags : length present ≡ k + m
  pub whole : words ≡ k * size
  pub parity_whole : parity_words ≡ m * size
  pub few : r ≤ 16
  pub points : r ≤ 2 ^ level
  pub room : 2 ^ n + m ≤ 2 ^ r
  pub enough : lost_count (is_lost k n m present) (2 ^ r) + 2 ^ n ≤ 2 ^ r
  pub factors_long : length factors ≡ 2 ^ r
  pub all : AreFactors number zero level k n m present (2 ^ r) factors

-- the word of a column at point p: of the data, zero up to 2 ^ n, of the parity, and zero behind it
abbrev pub word_at : {W : Type 0} → W → ℕ → ℕ → ℕ → ℕ → ℕ → List W → List W → ℕ → W
word_at zero k n m size column shards parity p =
    if nat_lt p k then slice_index_or shards (p * size + column) zero
    else if nat_lt p (2 ^ n) then zero
    else if nat_lt p (2 ^ n + m) then slice_index_or parity ((p - 2 ^ n) * size + column) zero
    else zero

-- the words of the missing shards in a strip are the rows from row `from` on, and all other words are as they were
pub record AreMended {W : Type 0} (zero : W) (size start width count from first : ℕ) (present : List Bool) (values old new : List W) : Type 0 where
  pub mended : (i c : ℕ) → i < count → c < width → slice_index_or present (first + i) false ≡ false
      → slice_index_or new (i * size + (start + c)) zero ≡ slice_index_or values ((from + i) * width + c) zero
  pub kept : (i c : ℕ) → c < size → (IsOutside start width c) ⊎ ((IsAtHand present (first + i)) ⊎ (count ≤ i))
      → slice_index_or new (i * size + c) zero ≡ slice_index_or old (i * size + c) zero

-- in one column the shards become those of each code word that those at hand agree with, of which there is one at most
abbrev pub RestoresSymbols : {W : Type 0} → (W → ℕ) → W → ℕ → ℕ → ℕ → ℕ → ℕ → List Bool → ℕ → List W → List W → List W → List W → Type 0
RestoresSymbols element zero level n k m size present column shards parity now_shards now_parity =
    (symbol word_parity : ℕ → ℕ) → IsCodedColumn level n k m symbol word_parity
    → ((i : ℕ) → i < k → IsAtHand present i → shard_symbol element zero size shards column i ≡ symbol i)
    → ((t : ℕ) → t < m → IsAtHand present (k + t) → shard_symbol element zero size parity column t ≡ word_parity t)
    → ((i : ℕ) → i < k → shard_symbol element zero size now_shards column i ≡ symbol i)
    × ((t : ℕ) → t < m → shard_symbol element zero size now_parity column t ≡ word_parity t)

-- the columns before column `until` are restored, those from it on are as they were, and so are all shards at hand
pub record AreRestoredColumns {W : Type 0} (element : W → ℕ) (zero : W) (level n k m size : ℕ) (present : List Bool) (until : ℕ)
    (shards parity now_shards now_parity : List W) : Type 0 where
  pub restored : (column : ℕ) → column < until
      → RestoresSymbols element zero level n k m size present column shards parity now_shards now_parity
  pub kept : (i c : ℕ) → c < size → (until ≤ c) ⊎ (IsAtHand present i)
      → slice_index_or now_shards (i * size + c) zero ≡ slice_index_or shards (i * size + c) zero
  pub parity_kept : (t c : ℕ) → c < size → (until ≤ c) ⊎ (IsAtHand present (k + t))
      → slice_index_or now_parity (t * size + c) zero ≡ slice_index_or parity (t * size + c) zero
