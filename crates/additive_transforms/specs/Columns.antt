-- Rows of values, one behind the other, and their columns.
use Rattle.std.specs.List.{range_with_len}
use Rattle.std.specs.Prelude.{◌≡◌, ℕ, ◌+◌, ◌*◌, ◌/◌, ◌^◌, ◌<◌, ◌≤◌, List, length, map, slice_index}

-- column c of the values, in rows of so many columns: value c of each row
unfoldable pub column_of : ℕ → ℕ → List ℕ → List ℕ
column_of columns c values = map (λ row. slice_index values (row * columns + c)) (range_with_len 0 (length values / columns))

-- what holds of two lists holds of each column of two lists of rows
abbrev pub InEachColumn : ℕ → (List ℕ → List ℕ → Type 0) → List ℕ → List ℕ → Type 0
InEachColumn columns holds old new = (c : ℕ) → c < columns → holds (column_of columns c old) (column_of columns c new)

-- so many values are 2 ^ m rows of one column or more, and a transform of a column has m stages
abbrev pub HasRows : ℕ → ℕ → ℕ → Type 0
HasRows m columns values = (m ≤ 40) × (0 < columns) × (values ≡ 2 ^ m * columns)

-- for some number m, and a field of `width` bits has no fewer points
abbrev pub FitsColumns : ℕ → ℕ → ℕ → Type 0
FitsColumns width columns values = (m : ℕ) × HasRows m columns values × (m ≤ width)
