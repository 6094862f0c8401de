-- Reed-Solomon codes (I. S. Reed and G. Solomon, Polynomial codes over certain finite fields, 1960) at the points that the Cantor vectors
-- of a level of the tower span (S.-J. Lin, W.-H. Chung and Y. S. Han, Novel polynomial basis and its application to Reed-Solomon erasure
-- codes, 2014). A symbol is an element of the level, and point p is the sum of Cantor vector b for each set bit b of p. There are k shards of
-- data and m of parity, and 2 ^ n is the least power of two that is not below k.
use Rattle.std.specs.Prelude.{◌≡◌, ℕ, ◌+◌, ◌*◌, ◌^◌, ◌<◌, ◌≤◌, List, length, slice_index, slice_index_or}
use Rattle.field_base.specs.Tower.{tower_mul}
use Rattle.ghash_slices.specs.Cantor.{point, polynomial_value}
use Rattle.word_tables.specs.Cantor.{cantor_vector}

-- the value at point p of the polynomial with these 2 ^ n coefficients
abbrev pub value_at : ℕ → ℕ → List ℕ → ℕ → ℕ
value_at level n coefficients p = polynomial_value (tower_mul level) n (slice_index coefficients) (point (2 ^ level) cantor_vector 0 p)

-- the polynomial of these 2 ^ n coefficients, which is of degree below 2 ^ n, has the symbols of data as its values at points 0, 1, .., k - 1,
-- and zeros at the points from there to 2 ^ n
pub record AreOfData (level n k : ℕ) (symbol : ℕ → ℕ) (coefficients : List ℕ) : Type 0 where
  pub count : length coefficients ≡ 2 ^ n
  pub values : (i : ℕ) → i < k → symbol i ≡ value_at level n coefficients i
  pub padding : (p : ℕ) → k ≤ p → p < 2 ^ n → value_at level n coefficients p ≡ 0

-- one such polynomial has the symbols of parity as its values at the m points from 2 ^ n on
pub record IsCodedColumn (level n k m : ℕ) (symbol parity : ℕ → ℕ) : Type 0 where
  pub coefficients : List ℕ
  pub of_data : AreOfData level n k symbol coefficients
  pub of_parity : (t : ℕ) → t < m → parity t ≡ value_at level n coefficients (2 ^ n + t)

-- symbol `column` of shard i, where shards of `size` words stand one after the other, and a word has an element
abbrev pub shard_symbol : {W : Type 0} → (W → ℕ) → W → ℕ → List W → ℕ → ℕ → ℕ
shard_symbol element zero size shards column i = element (slice_index_or shards (i * size + column) zero)

-- each column of the shards of data and of parity before column `until` is a code word
abbrev pub AreCodedBefore : {W : Type 0} → (W → ℕ) → W → ℕ → ℕ → ℕ → ℕ → ℕ → ℕ → List W → List W → Type 0
AreCodedBefore element zero level n k m size until shards parity =
    (column : ℕ) → column < until
    → IsCodedColumn level n k m (shard_symbol element zero size shards column) (shard_symbol element zero size parity column)

-- each column is
abbrev pub AreCodedColumns : {W : Type 0} → (W → ℕ) → W → ℕ → ℕ → ℕ → ℕ → ℕ → List W → List W → Type 0
AreCodedColumns element zero level n k m size shards parity = AreCodedBefore element zero level n k m size size shards parity
