-- The sizes of a proof for two tables of 2 ^ n elements, of which 2 ^ m places are opened, and its parts.
use Rattle.std.specs.Prelude.{ℕ, ◌+◌, ◌*◌, ◌/◌, ◌^◌, List, [], ◌∷◌, length, map, take, drop, slice_index}
use Rattle.protocols.specs.CommitmentScheme.{matrix_rows, place_count, row_levels}
use Rattle.protocols.specs.JointTables.{SentTables, sent_tables}

-- ---- sizes

-- Each table is committed to by the scheme of `protocols`, with 2 ^ m places opened, or all where there are fewer. The elements of a row
abbrev pub row_size : ℕ → ℕ → ℕ
row_size m n = 2 ^ row_levels m n

-- the elements of the columns that are opened
abbrev pub columns_size : ℕ → ℕ → ℕ
columns_size m n = place_count m n * 2 ^ matrix_rows m n

-- ---- parts

-- The elements of a proof: the sum, two for each round's message, the values of both tables at the point, a witness of work, the one row, and
-- the columns that are opened of each table.
abbrev pub element_count : ℕ → ℕ → ℕ
element_count m n = 2 * n + 4 + row_size m n + 2 * columns_size m n

-- so many values, from a place on
abbrev pub part : {X : Type 0} → ℕ → ℕ → List X → List X
part from size values = take size (drop from values)

-- the sum as a number
abbrev pub sum_in : {F : Type 0} → (F → ℕ) → List F → ℕ
sum_in repr elements = slice_index (map repr elements) 0

-- the messages
abbrev pub messages_in : {F : Type 0} → ℕ → List F → List F
messages_in n elements = part 1 (2 * n) elements

-- the values of the left and of the right table
abbrev pub values_in : {F : Type 0} → ℕ → List F → List F
values_in n elements = part (2 * n + 1) 2 elements

-- the witness as a number
abbrev pub witness_in : {F : Type 0} → (F → ℕ) → ℕ → List F → ℕ
witness_in repr n elements = slice_index (map repr elements) (2 * n + 3)

-- the row
abbrev pub row_in : {F : Type 0} → ℕ → ℕ → List F → List F
row_in m n elements = part (2 * n + 4) (row_size m n) elements

-- the columns of table 0 or 1
abbrev pub columns_in : {F : Type 0} → ℕ → ℕ → ℕ → List F → List F
columns_in m n which elements = part (2 * n + 4 + row_size m n + which * columns_size m n) (columns_size m n) elements

-- .. and the nodes that open them: half of the nodes
abbrev pub nodes_in : ℕ → List (List ℕ) → List (List ℕ)
nodes_in which nodes = part (which * (length nodes / 2)) (length nodes / 2) nodes

-- what is sent of both tables
abbrev pub sent_in : {F : Type 0} → (F → ℕ) → ℕ → ℕ → List F → List (List ℕ) → SentTables F
sent_in number m n elements nodes =
    sent_tables (values_in n elements) (row_in m n elements) (witness_in number n elements)
    (columns_in m n 0 elements ∷ columns_in m n 1 elements ∷ []) (nodes_in 0 nodes ∷ nodes_in 1 nodes ∷ [])
