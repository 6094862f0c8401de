-- Matrices over GF(2), packed: each row in as many words of 64 bits, row after row in a list, place j of a row in bit j % 64 of its word
-- j / 64. They are multiplied by the method of the four Russians (V. Arlazarov, E. Dinic, M. Kronrod and I. Faradzev, 1970; M. Albrecht,
-- G. Bard and W. Hart, Efficient Multiplication of Dense Matrices over GF(2), ACM TOMS 37, 2010).
use Rattle.std.specs.Prelude.{◌≡◌, ◌⊎◌, ℕ, ◌+◌, ◌-◌, ◌*◌, ◌/◌, ◌%◌, ◌^◌, ◌<◌, ◌≤◌, List, bit_xor, if◌then◌else◌, length, nat_lt, slice_index}
use Rattle.std.specs.Array.{FillsFrom}
use Rattle.std.specs.Int.{bit_at, div_ceil}
use Rattle.field_base.specs.Basis.{sum_below}
use Rattle.field_slices.specs.Matrices.{IsEntryWritten, IsRowWritten, identity_entry}

-- how many words a row of so many bits takes
abbrev pub words_for : ℕ → ℕ
words_for columns = div_ceil columns 64

-- word v of row i of a matrix of so many words a row
abbrev pub word_of : ℕ → List ℕ → ℕ → ℕ → ℕ
word_of words values i v = slice_index values (i * words + v)

-- entry (i, j) of a matrix of so many words a row
abbrev pub bit_entry : ℕ → List ℕ → ℕ → ℕ → ℕ
bit_entry words values i j = bit_at (word_of words values i (j / 64)) (j % 64)

-- ---- what functions that read and write a matrix need and leave

-- a list has rows of so many words one behind the other, and this row and column are those of an entry
pub record HasBitEntry (rows words row column len : ℕ) : Type 0 where
  pub shape : len ≡ rows * words
  pub row_within : row < rows
  pub column_within : column < 64 * words

-- the row has these entries, in all bits of its words, and the other rows are as they were
abbrev pub IsBitRowWritten : ℕ → ℕ → (ℕ → ℕ) → List ℕ → List ℕ → Type 0
IsBitRowWritten words = IsRowWritten (bit_entry words) (64 * words)

-- the entry in this row and column has a value, and the others are as they were
abbrev pub IsBitWritten : ℕ → ℕ → ℕ → ℕ → List ℕ → List ℕ → Type 0
IsBitWritten words = IsEntryWritten (bit_entry words) (64 * words)

-- what a row has before column n, and 0 from there on
abbrev pub kept_before : ℕ → (ℕ → ℕ) → ℕ → ℕ
kept_before n row j = if nat_lt j n then row j else 0

-- draws from a random source, from the state `before` to the state `after`, gave a word for each place, the first first, and the matrix of
-- so many rows and columns has their bits, and 0 behind the columns
abbrev pub IsDrawnMatrix : {S : Type 0} → (S → ℕ → S → Type 0) → ℕ → ℕ → List ℕ → S → S → Type 0
IsDrawnMatrix draws rows columns values before after =
    (drawn : List ℕ) × FillsFrom (λ s i word t. draws s word t) before 0 drawn after × (length drawn ≡ length values)
    × ((i j : ℕ) → i < rows → j < 64 * words_for columns
    → bit_entry (words_for columns) values i j ≡ kept_before columns (bit_entry (words_for columns) drawn i) j)

-- ---- steps of the method

-- the words from a place on have these values, and the others are as they were
pub record IsRangeWritten (start count : ℕ) (wanted : ℕ → ℕ) (old now : List ℕ) : Type 0 where
  pub shape : length now ≡ length old
  pub written : (p : ℕ) → p < count → slice_index now (start + p) ≡ wanted p
  pub others : (p : ℕ) → (p < start) ⊎ (start + count ≤ p) → slice_index now p ≡ slice_index old p

-- of the words outside of a range, each is as it was
abbrev pub IsKeptOutside : ℕ → ℕ → List ℕ → List ℕ → Type 0
IsKeptOutside start count old now = (p : ℕ) → (p < start) ⊎ (start + count ≤ p) → slice_index now p ≡ slice_index old p

-- a strip of a matrix is `width` words of each row, 8 at most, from word `start` on
pub record IsStrip (words start width : ℕ) : Type 0 where
  pub within : start + width ≤ words
  pub narrow : width ≤ 8

-- in a strip of so many rows these words were added, word w of the strip in row i, and the other words are as they were
pub record IsStripAdded (words start width rows : ℕ) (sums : ℕ → ℕ → ℕ) (old now : List ℕ) : Type 0 where
  pub shape : length now ≡ length old
  pub added : (i w : ℕ) → i < rows → w < width
      → word_of words now i (start + w) ≡ bit_xor (word_of words old i (start + w)) (sums i w)
  pub others : (i v : ℕ) → v < words → (v < start) ⊎ (start + width ≤ v) → word_of words now i v ≡ word_of words old i v

-- word v of row k of a matrix of `inner` rows, and 0 behind its last row
abbrev pub row_word : ℕ → ℕ → List ℕ → ℕ → ℕ → ℕ
row_word inner words values k v = if nat_lt k inner then word_of words values k v else 0

-- the sum of f b over the set bits b < n of x
abbrev pub sum_at_bits : (ℕ → ℕ) → ℕ → ℕ → ℕ
sum_at_bits f n x = sum_below (λ b. bit_at x b * f b) n

-- the first `size` entries of a table of four rows that begins at a place of a list: entry u has the sum of the rows at the set bits of u
abbrev pub HasEntries : ℕ → ℕ → (ℕ → ℕ → ℕ) → ℕ → List ℕ → Type 0
HasEntries width size rows start values =
    (u w : ℕ) → u < size → w < width → slice_index values (start + (8 * u + w)) ≡ sum_at_bits (λ c. rows c w) 4 u

-- tables of four rows each, one behind the other, for so many groups of rows
abbrev pub HasTables : ℕ → ℕ → (ℕ → ℕ → ℕ) → List ℕ → Type 0
HasTables width groups rows values =
    (g : ℕ) → g < groups → HasEntries width 16 (λ c w. rows (4 * g + c) w) (128 * g) values

-- word w of the sum of one entry of each of n tables: those at the digits of a word to base 16
abbrev pub sum_of_digits : List ℕ → ℕ → ℕ → ℕ → ℕ
sum_of_digits values word n w = sum_below (λ g. slice_index values (128 * g + (8 * (word / 2 ^ (4 * g) % 16) + w))) n

-- row i of the left matrix times word v of the rows of the right one, as far as its first n rows
abbrev pub partial_word : ℕ → ℕ → ℕ → List ℕ → List ℕ → ℕ → ℕ → ℕ → ℕ
partial_word inner left_words words left right n i v =
    sum_below (λ k. bit_entry left_words left i k * row_word inner words right k v) n

-- ---- elimination, 64 columns at a time

-- entry (k, j) of a matrix of so many rows, and 0 behind its last row
abbrev pub entry_within : ℕ → (ℕ → ℕ → ℕ) → ℕ → ℕ → ℕ
entry_within rows A k j = if nat_lt k rows then A k j else 0

-- for b < 64, a column `first + b` has its pivot in row `place b`; where that is no row it has none. The rows are those before row `rank`,
-- and from b = bit on no column has a pivot
pub record ArePivotPlaces (rows rank bit : ℕ) (place : ℕ → ℕ) : Type 0 where
  pub taken : (b : ℕ) → b < 64 → place b < rows → place b < rank
  pub free : (b : ℕ) → bit ≤ b → b < 64 → rows ≤ place b

-- the sum that row i is still to have added in column j: of each row with a pivot for which its entry in the column of that pivot is 1
abbrev pub pending_sum : ℕ → ℕ → (ℕ → ℕ) → (ℕ → ℕ → ℕ) → ℕ → ℕ → ℕ
pending_sum rows first place A i j = sum_below (λ b. A i (first + b) * entry_within rows A (place b) j) 64

-- entry (i, j) of the matrix that A stands for while columns `first` to `first + 63` are eliminated: a column with a pivot is 1 in the row
-- of the pivot alone, and behind these columns the sums that are still to be added are added
unfoldable pub present_entry : ℕ → ℕ → (ℕ → ℕ) → (ℕ → ℕ → ℕ) → ℕ → ℕ → ℕ
present_entry rows first place A i j =
    if nat_lt j first then A i j else if nat_lt j (first + 64) then
    (if nat_lt (place (j - first)) rows then identity_entry (place (j - first)) i else A i j)
    else bit_xor (A i j) (pending_sum rows first place A i j)

-- the same of a matrix in a list, in the word that has a column
abbrev pub present_bit : ℕ → ℕ → ℕ → List ℕ → List ℕ → ℕ → ℕ → ℕ
present_bit rows words column places values =
    present_entry rows (64 * (column / 64)) (slice_index places) (bit_entry words values)

-- in the words from one on and before another one of each row these words were added, word v in row i, and the other words are as they were
pub record AreWordsAdded (words from to rows : ℕ) (sums : ℕ → ℕ → ℕ) (old now : List ℕ) : Type 0 where
  pub shape : length now ≡ length old
  pub added : (i v : ℕ) → i < rows → v < words → from ≤ v → v < to → word_of words now i v ≡ bit_xor (word_of words old i v) (sums i v)
  pub others : (i v : ℕ) → v < words → (v < from) ⊎ (to ≤ v) → word_of words now i v ≡ word_of words old i v

-- in so many columns from one on 1 was added in the row of the pivot, where there is one, and the other entries are as they were
pub record ArePivotsSet (rows words first count : ℕ) (place : ℕ → ℕ) (old now : List ℕ) : Type 0 where
  pub shape : length now ≡ length old
  pub set : (i b : ℕ) → i < rows → b < count → bit_entry words now i (first + b)
      ≡ bit_xor (bit_entry words old i (first + b)) (entry_within rows identity_entry (place b) i)
  pub others : (i j : ℕ) → j < 64 * words → (j < first) ⊎ (first + count ≤ j) → bit_entry words now i j ≡ bit_entry words old i j

-- ---- transposes

-- one word of each of so many rows from one on has these bits, as far as the matrix has these rows, and the other entries are as they were
pub record IsBlockWritten (rows words first count word : ℕ) (wanted : ℕ → ℕ → ℕ) (old now : List ℕ) : Type 0 where
  pub shape : length now ≡ length old
  pub written : (i b : ℕ) → first ≤ i → i < first + count → i < rows → b < 64 → bit_entry words now i (64 * word + b) ≡ wanted i b
  pub before : (i j : ℕ) → i < rows → j < 64 * words → (i < first) ⊎ (first + count ≤ i)
      → bit_entry words now i j ≡ bit_entry words old i j
  pub others : (i j : ℕ) → i < rows → j < 64 * words → (j < 64 * word) ⊎ (64 * word + 64 ≤ j)
      → bit_entry words now i j ≡ bit_entry words old i j
