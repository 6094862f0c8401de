-- Tables to which columns commit that a prover has chosen, whatever they are, and soundness of opening their values at a point. Column p is
-- a list of symbols, one for each row, and a point of h coordinates folds 2 ^ h rows.
use Rattle.std.specs.Prelude.{◌≡◌, ◌⊎◌, ℕ, ◌+◌, ◌*◌, ◌^◌, ◌<◌, ◌≤◌, Bool, false, List, ◌++◌, length, slice_index, take}
use Rattle.field_base.specs.Field.{IsField}
use Rattle.field_base.specs.Orders.{AreCantorVectors}
use Rattle.field_slices.specs.Multilinear.{multilinear_value}
use Rattle.field_slices.specs.Folds.{IsLuckyAt}
use Rattle.field_slices.specs.Marks.{marked_below}
use Rattle.field_slices.specs.Openings.{misses}
use Rattle.protocols.specs.CodeDistances.{point_generator}
use Rattle.protocols.specs.CodeWords.{IsCodeWordOf}
use Rattle.protocols.specs.Tables.{AgreesAt, ExtendsTable, column_values}

-- columns as a matrix of functions: symbol i of column p
abbrev pub column_symbol : (ℕ → List ℕ) → ℕ → ℕ → ℕ
column_symbol column i p = slice_index (column p) i

-- the symbols of so many columns are elements of the field
abbrev pub AreColumnsOf : ℕ → ℕ → (ℕ → List ℕ) → Type 0
AreColumnsOf width count column = (p i : ℕ) → p < count → slice_index (column p) i < 2 ^ width

-- The table to which columns commit: they are those of its extension, but for at most e.
pub record CommitsTo (width : ℕ) (times : ℕ → ℕ → ℕ) (vector : ℕ → ℕ) (k r e height : ℕ) (column : ℕ → List ℕ) (table : List ℕ)
    : Type 0 where
  pub size : length table ≡ height * 2 ^ k
  pub fits : (i : ℕ) → slice_index table i < 2 ^ width
  pub matrix : List ℕ
  pub extends : ExtendsTable width times vector k r height table matrix
  pub marked : ℕ → Bool
  pub few : marked_below marked (2 ^ r * 2 ^ k) ≤ e
  pub same : (i p : ℕ) → i < height → p < 2 ^ r * 2 ^ k → marked p ≡ false
      → slice_index (column p) i ≡ slice_index matrix (i * (2 ^ r * 2 ^ k) + p)

-- A coordinate of the point is lucky for columns: those before leave of them what is not near the code within e columns, and this one
-- leaves what is. Which of its values do that is settled by the columns and by the coordinates before.
abbrev pub HasLuckyCoordinate : ℕ → (ℕ → ℕ → ℕ) → (ℕ → ℕ) → ℕ → ℕ → ℕ → (ℕ → List ℕ) → List ℕ → Type 0
HasLuckyCoordinate width times vector k r e column point =
    (j : ℕ) × IsLuckyAt times (2 ^ k) (2 ^ r * 2 ^ k) (point_generator width times vector k) e (length point) (column_symbol column) point j

-- Places are lucky for a row: its code word misses the columns' values at the point at more than e places, and at none of these. Which
-- places it misses is settled by the columns, the point and the row.
pub record AreLuckyPlaces (width : ℕ) (times : ℕ → ℕ → ℕ) (vector : ℕ → ℕ) (k r e : ℕ) (column : ℕ → List ℕ) (point row places : List ℕ)
    : Type 0 where
  pub word : List ℕ
  pub code_word : IsCodeWordOf width times vector k r word
  pub begins : take (2 ^ k) word ≡ row
  pub many : e < marked_below (misses times (length point) (column_symbol column) point (slice_index word)) (2 ^ r * 2 ^ k)
  pub missed : (i : ℕ) → i < length places
      → misses times (length point) (column_symbol column) point (slice_index word) (slice_index places i) ≡ false

-- A row and places show a fact of the table to which columns commit: there is such a table, of which it holds, or a coordinate of the point
-- is lucky, or the places are.
abbrev pub ShowsTable : ℕ → (ℕ → ℕ → ℕ) → (ℕ → ℕ) → ℕ → ℕ → ℕ → (ℕ → List ℕ) → List ℕ → List ℕ → List ℕ → (List ℕ → Type 0) → Type 0
ShowsTable width times vector k r e column point row places fact =
    ((table : List ℕ) × CommitsTo width times vector k r e (2 ^ length point) column table × fact table)
    ⊎ HasLuckyCoordinate width times vector k r e column point
    ⊎ AreLuckyPlaces width times vector k r e column point row places

-- ---- laws

-- Soundness, for every prover, within less than half the distance: a row that agrees with columns at places, whatever the columns are, shows
-- that it has the values of the columns of the table to which they commit.
abbrev pub OpenedRowsNeedLuck : Type 0
OpenedRowsNeedLuck =
    (width : ℕ) (times : ℕ → ℕ → ℕ) (vector : ℕ → ℕ) → 0 < width → IsField width times → AreCantorVectors width times vector
    → ((b : ℕ) → b < width → vector b < 2 ^ width)
    → (k r e : ℕ) (column : ℕ → List ℕ) (point row places : List ℕ) → r + k ≤ width → 2 * e + 2 ^ k ≤ 2 ^ r * 2 ^ k
    → AreColumnsOf width (2 ^ r * 2 ^ k) column
    → AgreesAt width times vector k r point row places (λ i. column (slice_index places i))
    → ShowsTable width times vector k r e column point row places (λ table. row ≡ column_values times point (2 ^ k) table)

-- and of the value at the whole point: what the row has at the other coordinates is the value of that table
abbrev pub OpenedValuesNeedLuck : Type 0
OpenedValuesNeedLuck =
    (width : ℕ) (times : ℕ → ℕ → ℕ) (vector : ℕ → ℕ) → 0 < width → IsField width times → AreCantorVectors width times vector
    → ((b : ℕ) → b < width → vector b < 2 ^ width)
    → (k r e : ℕ) (column : ℕ → List ℕ) (point others row places : List ℕ) → r + k ≤ width → 2 * e + 2 ^ k ≤ 2 ^ r * 2 ^ k
    → length others ≡ k → AreColumnsOf width (2 ^ r * 2 ^ k) column
    → AgreesAt width times vector k r point row places (λ i. column (slice_index places i))
    → ShowsTable width times vector k r e column point row places
    (λ table. multilinear_value times row others ≡ multilinear_value times table (point ++ others))

-- and the table is the same at every point: columns commit to at most one
abbrev pub TableIsOne : Type 0
TableIsOne =
    (width : ℕ) (times : ℕ → ℕ → ℕ) (vector : ℕ → ℕ) → 0 < width → IsField width times → AreCantorVectors width times vector
    → ((b : ℕ) → b < width → vector b < 2 ^ width)
    → (k r e height : ℕ) (column : ℕ → List ℕ) (one other : List ℕ) → r + k ≤ width → 2 * e + 2 ^ k ≤ 2 ^ r * 2 ^ k
    → CommitsTo width times vector k r e height column one → CommitsTo width times vector k r e height column other
    → one ≡ other
