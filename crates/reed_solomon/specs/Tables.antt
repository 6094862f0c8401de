-- Products by a factor as sums of two entries of tables, one for each half of a byte (J. S. Plank, K. M. Greenan and E. L. Miller,
-- Screaming fast Galois field arithmetic using Intel SIMD instructions, 2013).
use Rattle.std.specs.Prelude.{◌≡◌, ◌⊎◌, ℕ, ◌+◌, ◌-◌, ◌*◌, ◌/◌, ◌%◌, ◌<◌, ◌≤◌, List, length, drop, slice_index, bit_xor}
use Rattle.field_base.specs.Basis.{sum_below}
use Rattle.reed_solomon.specs.ByteFields.{byte_times}
use Rattle.reed_solomon.specs.declared.byte_field.ByteField.TheVariants.{Qr}

-- entry n of a factor's 32 entries: its products by 0, .., 15, and then by 0, 16, .., 240
pub record IsEntry (factor n entry : ℕ) : Type 0 where
  pub low : n < 16 → entry ≡ byte_times Qr factor n
  pub high : 16 ≤ n → entry ≡ byte_times Qr factor (16 * (n - 16))

-- row `row` of four has the entries of the factors of `count` shards
abbrev pub HasRow : (ℕ → ℕ) → List ℕ → ℕ → ℕ → Type 0
HasRow factor entries row count =
    (j n : ℕ) → j < count → n < 32 → IsEntry (factor j) n (slice_index entries (128 * j + 32 * row + n))

-- the tables of the factors of m rows of k shards: those of four rows stand together, and those of the next four behind them
abbrev pub HaveRows : (ℕ → ℕ → ℕ) → ℕ → ℕ → List ℕ → Type 0
HaveRows factor k m tables = (t : ℕ) → t < m → HasRow (factor t) (drop (128 * k * (t / 4)) tables) (t % 4) k

-- the sum of the entries of a byte's halves, where the 32 entries begin at `start`
abbrev pub nibble_sum : List ℕ → ℕ → ℕ → ℕ
nibble_sum entries start byte =
    bit_xor (slice_index entries (start + byte % 16)) (slice_index entries (start + 16 + byte / 16))

-- what the entries of one row give in one column of the first n of the shards that begin at `starts`
abbrev pub row_sum_of : ℕ → List ℕ → List ℕ → List ℕ → ℕ → ℕ → ℕ
row_sum_of n entries shards starts row column =
    sum_below (λ j. nibble_sum entries (128 * j + 32 * row) (slice_index shards (slice_index starts j + column))) n

-- the same of all of them
abbrev pub row_sum : List ℕ → List ℕ → List ℕ → ℕ → ℕ → ℕ
row_sum entries shards starts row column = row_sum_of (length starts) entries shards starts row column

-- rows of `width` bytes, which begin at their places, have their values, and everything else is as it was
pub record AreWritten (value : ℕ → ℕ → ℕ) (place : ℕ → ℕ) (rows width : ℕ) (old now : List ℕ) : Type 0 where
  pub long : length now ≡ length old
  pub written : (row column : ℕ) → row < rows → column < width → slice_index now (place row + column) ≡ value row column
  pub others : (i : ℕ) → ((row : ℕ) → row < rows → (i < place row) ⊎ (place row + width ≤ i)) → slice_index now i ≡ slice_index old i

-- `count` rows of `width` bytes, which begin `size` bytes apart from `begin` on, have their values
abbrev pub AreRows : ℕ → ℕ → ℕ → ℕ → (ℕ → ℕ → ℕ) → List ℕ → Type 0
AreRows count size begin width value bytes =
    (row column : ℕ) → row < count → column < width → slice_index bytes (begin + row * size + column) ≡ value row column

-- rows of `width` bytes that begin at two places do not meet
abbrev pub AreApart : ℕ → ℕ → ℕ → Type 0
AreApart width a b = (a + width ≤ b) ⊎ (b + width ≤ a)

-- what `count` rows need that are written by tables: they are at most four, and begin at `rows` in a slice of `room` bytes, where no two meet; 1 to
-- 256 shards begin at `starts` in another, with entries of these rows for each. Rows and shards have `size` bytes.
pub record FitRows (size : ℕ) (entries shards starts : List ℕ) (room : ℕ) (rows : List ℕ) (count : ℕ) : Type 0 where
  pub named : length rows ≡ count
  pub few_rows : count ≤ 4
  pub some_shards : 0 < length starts
  pub few_shards : length starts ≤ 256
  pub tables : 128 * length starts + 32 * count ≤ length entries + 128
  pub inside : (j : ℕ) → j < length starts → slice_index starts j + size ≤ length shards
  pub within : (row : ℕ) → row < count → slice_index rows row + size ≤ room
  pub apart : (row other : ℕ) → other < row → row < count → AreApart size (slice_index rows row) (slice_index rows other)
