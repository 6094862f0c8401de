-- Several committed tables of one shape, opened at one point by one row. Tables one above the other are one table, with a first coordinate
-- for each bit of a table's number: challenges that are drawn behind the tables' values take the place of these coordinates, and the row is
-- that of the one table (S. Ames, C. Hazay, Y. Ishai and M. Venkitasubramaniam, Ligero, 2017, section 4.1, where random coefficients combine
-- rows; here they are the values of eq at the challenges). Each table has a root of its own.
use Rattle.std.specs.Prelude.{◌≡◌, ◌⊎◌, ℕ, ◌+◌, ◌*◌, ◌/◌, ◌%◌, ◌^◌, ◌<◌, ◌≤◌, Bool, true, List, [], ◌++◌, length, map, take, drop, get_or, bit_xor}
use Rattle.std.specs.Prelude.{◌↔◌, IsTrue, slice_index}
use Rattle.std.specs.List.{AllZip, range_with_len}
use Rattle.field_base.specs.Field.{IsField}
use Rattle.field_base.specs.Orders.{AreCantorVectors}
use Rattle.field_bytes.specs.Streams.{joined_bytes}
use Rattle.field_slices.specs.Multilinear.{multilinear_value}
use Rattle.transcripts.specs.Commitments.{root_of, row_at}
use Rattle.transcripts.specs.MerkleTrees.{HaveDigestSize}
use Rattle.transcripts.specs.Openings.{OpensRows}
use Rattle.transcripts.specs.declared.merkle_tree.MerkleTree.{MerkleTree}
use Rattle.field_slices.specs.Blocks.{cheats_in_blocks}
use Rattle.field_slices.specs.Codes.{HaveSymbols, IsWordOf}
use Rattle.field_slices.specs.Openings.{IsOpened}
use Rattle.transcripts.specs.Lists.{InTurn}
use Rattle.sum_checks.specs.ZeroCheck.{IsRootAt}
use Rattle.protocols.specs.CodeDistances.{point_generator}
use Rattle.protocols.specs.CommitmentScheme.{ArePlacesDrawn, HoldsColumns, matrix_rows, opening_error, opening_whole, place_bits, row_levels, value_columns, word_levels}
use Rattle.protocols.specs.OpenedTables.{AreColumnsOf, CommitsTo, ShowsTable}
use Rattle.protocols.specs.RootColumns.{HasSent, HaveOtherColumns}
use Rattle.protocols.specs.Tables.{AgreesAt}

-- the cube of so many coordinates is the least that has a corner for each of so many tables
pub record IsLeastCube (count levels : ℕ) : Type 0 where
  pub room : count ≤ 2 ^ levels
  pub least : (fewer : ℕ) → fewer < levels → 2 ^ fewer < count

-- what holds of each of the first so many elements of a list, by its place
abbrev pub EachBelow : {X : Type 0} → ℕ → List X → (ℕ → X → Type 0) → Type 0
EachBelow {X} n xs P = (i : ℕ) (x : X) → i < n → x ≡ get_or xs i x → P i x

-- column p of so many tables, of `height` symbols of each, one table above the other
abbrev pub stacked : ℕ → ℕ → (ℕ → ℕ → List ℕ) → ℕ → List ℕ
stacked count height column p = map (λ j. slice_index (column (j / height) p) (j % height)) (range_with_len 0 (count * height))

-- ---- openings

-- What is sent of several tables but for their roots: their values at the point, the row, the columns of each that are opened, one after the
-- other, and the nodes that open their bytes.
pub record SentTables (F : Type 0) : Type 0 where
  pub values : List F
  pub row : List F
  pub witness : ℕ
  pub columns : List (List F)
  pub nodes : List (List (List ℕ))

-- such a record of these
abbrev pub sent_tables : {F : Type 0} → List F → List F → ℕ → List (List F) → List (List (List ℕ)) → SentTables F
sent_tables values row witness columns nodes = record { values = values; row = row; witness = witness; columns = columns; nodes = nodes }

-- columns have `height` elements each, and nodes open their bytes, `size` of each element, at these places under the root
pub record OpensBytes {F : Type 0} (hash : List ℕ → List ℕ) (repr : F → ℕ) (size depth height : ℕ) (places root : List ℕ) (columns : List F)
    (nodes : List (List ℕ)) : Type 0 where
  pub count : length columns ≡ length places * height
  pub opened : OpensRows hash depth root places (λ i. joined_bytes size repr (row_at height columns i)) nodes

-- column k of those that are sent of table i
abbrev pub sent_column : {F : Type 0} → (F → ℕ) → ℕ → List (List F) → ℕ → ℕ → List ℕ
sent_column repr height columns i k = map repr (row_at height (get_or columns i []) k)

-- There are as many values, columns and nodes as roots; the nodes open the columns of each table at the same places; the row's code word has
-- there the values of the columns of all tables, one above the other, at the challenges and the first coordinates of the point; and the row has
-- at the others what the values have at the challenges.
pub record OpensTables {F : Type 0} (hash : List ℕ → List ℕ) (repr : F → ℕ) (size width : ℕ) (times : ℕ → ℕ → ℕ) (vector : ℕ → ℕ) (m n : ℕ)
    (roots : List (List ℕ)) (sent : SentTables F) (challenges point : List F) (places : List ℕ) : Type 0 where
  pub values : length sent.values ≡ length roots
  pub columns : length sent.columns ≡ length roots
  pub nodes : length sent.nodes ≡ length roots
  pub opened : (i : ℕ) → i < length roots
      → OpensBytes hash repr size (word_levels m n) (2 ^ matrix_rows m n) places (get_or roots i []) (get_or sent.columns i [])
      (get_or sent.nodes i [])
  pub agrees : AgreesAt width times vector (row_levels m n) 2 (map repr challenges ++ map repr (take (matrix_rows m n) point))
      (map repr sent.row) places (stacked (length roots) (2 ^ matrix_rows m n) (sent_column repr (2 ^ matrix_rows m n) sent.columns))
  pub evaluates : multilinear_value times (map repr sent.values) (map repr challenges)
      ≡ multilinear_value times (map repr sent.row) (map repr (drop (matrix_rows m n) point))

-- The challenges for so many tables: elements are observed in order, and then as many are sampled as the least cube has coordinates.
pub record AreTablesCombined {C F : Type 0} (observes gives : C → F → C → Type 0) (count : ℕ) (sent : List F) (old : C) (challenges : List F)
    (new : C) : Type 0 where
  pub begun : C
  pub observed : InTurn observes sent old begun
  pub sampled : InTurn gives challenges begun new
  pub cube : IsLeastCube count (length challenges)

-- The verdict on an opening of several tables, in a transcript: the point and the values are observed, challenges are sampled, the row is
-- observed, then places are drawn; it is true exactly if the witness works and the columns there open the values.
pub record VerifiesTables {C F : Type 0} (observes gives : C → F → C → Type 0) (passing : C → ℕ → ℕ → Bool)
    (checks gives_bits : C → ℕ → ℕ → C → Type 0) (repr : F → ℕ) (hash : List ℕ → List ℕ) (size width : ℕ) (times : ℕ → ℕ → ℕ)
    (vector : ℕ → ℕ) (m n : ℕ) (roots : List (List ℕ)) (point : List F) (sent : SentTables F) (old : C) (accepted : Bool) (new : C)
    : Type 0 where
  pub challenges : List F
  pub between : C
  pub combined : AreTablesCombined observes gives (length roots) (point ++ sent.values) old challenges between
  pub works : Bool
  pub places : List ℕ
  pub drawn : ArePlacesDrawn observes gives passing checks gives_bits m n sent.row sent.witness between works places new
  pub decided : IsTrue accepted
      ↔ IsTrue works × OpensTables hash repr size width times vector m n roots sent challenges point places

-- Completeness: whatever the hash function and the tables are that columns and trees are of, what is sent has the values of the tables at
-- the point, and a verifier accepts it in a transcript of the same state.
abbrev pub IsHonestOpeningOf : {C F A : Type 0} → (C → F → C → Type 0) → (C → F → C → Type 0) → (C → ℕ → ℕ → Bool) → (C → ℕ → ℕ → C → Type 0)
    → (C → ℕ → ℕ → C → Type 0) → (F → ℕ) → ℕ → ℕ → (ℕ → ℕ → ℕ) → (ℕ → ℕ) → ℕ → ℕ → List (List F × MerkleTree A) → List F → SentTables F → C → C
    → Type 0
IsHonestOpeningOf {C} {F} observes gives passing checks gives_bits repr size width times vector m n held point sent old new =
    (hash : List ℕ → List ℕ) (tables : List (List F))
    → AllZip (λ table columns. HoldsColumns hash repr size width times vector m n table columns.0 columns.1) tables held
    → (map repr sent.values ≡ map (λ table. multilinear_value times (map repr table) (map repr point)) tables)
    × VerifiesTables observes gives passing checks gives_bits repr hash size width times vector m n (map (λ columns. root_of columns.1) held) point
    sent old true new

-- The whole: in transcripts of the same state verdicts on one opening are the same, and lead to the same state.
abbrev pub TableVerdictsAgree : {C S F : Type 0} → (C → S) → (C → F → C → Type 0) → (C → F → C → Type 0) → (C → ℕ → ℕ → Bool)
    → (C → ℕ → ℕ → C → Type 0) → (C → ℕ → ℕ → C → Type 0) → (F → ℕ) → ℕ → ℕ → (ℕ → ℕ → ℕ) → (ℕ → ℕ) → Type 0
TableVerdictsAgree {C} {S} {F} state observes gives passing checks gives_bits repr size width times vector =
    (hash : List ℕ → List ℕ) (m n : ℕ) (roots : List (List ℕ)) (point : List F) (sent : SentTables F) (prover verifier : C)
    (one other : Bool) (last left : C) → state prover ≡ state verifier
    → VerifiesTables observes gives passing checks gives_bits repr hash size width times vector m n roots point sent prover one last
    → VerifiesTables observes gives passing checks gives_bits repr hash size width times vector m n roots point sent verifier other left
    → (one ≡ other) × (state last ≡ state left)

-- ---- soundness

-- table i of tables at corners of a cube, of 2 ^ n elements each and one above the other
abbrev pub table_at : ℕ → List ℕ → ℕ → List ℕ
table_at n tables i = row_at (2 ^ n) tables i

-- by how much claimed values differ from those of the tables at the point, at each corner of a cube; where none is claimed, 0 is
abbrev pub value_differences : (ℕ → ℕ → ℕ) → ℕ → List ℕ → List ℕ → List ℕ → List ℕ
value_differences times levels values tables point =
    map (λ i. bit_xor (slice_index values i) (multilinear_value times (table_at (length point) tables i) point)) (range_with_len 0 (2 ^ levels))

-- Each of so many tables is the one to which its columns commit, and has its value at the point; or else a challenge is lucky: it is the root
-- of a line that is not 0, through differences of values at which the challenges before it are set.
pub record HoldTables (width : ℕ) (times : ℕ → ℕ → ℕ) (vector : ℕ → ℕ) (k r e height count : ℕ) (column : ℕ → ℕ → List ℕ)
    (challenges values point tables : List ℕ) : Type 0 where
  pub commits : (i : ℕ) → i < count → CommitsTo width times vector k r e height (column i) (table_at (length point) tables i)
  pub evaluates : ((i : ℕ) → i < count → slice_index values i ≡ multilinear_value times (table_at (length point) tables i) point)
      ⊎ ((j : ℕ) × IsRootAt times (value_differences times (length challenges) values tables point) challenges j)

-- What an opening of several tables shows of columns: those of each table commit to one, which has its value at the point, or a challenge is
-- lucky for the values; or a challenge or a coordinate is lucky for the columns of all, one above the other; or the places are.
abbrev pub ShowsTables : ℕ → (ℕ → ℕ → ℕ) → (ℕ → ℕ) → ℕ → ℕ → ℕ → ℕ → (ℕ → ℕ → List ℕ) → List ℕ → List ℕ → List ℕ → List ℕ → List ℕ → List ℕ
    → Type 0
ShowsTables width times vector k r e count column challenges values point others row places =
    ShowsTable width times vector k r e (stacked count (2 ^ length point) column) (challenges ++ point) row places
    (HoldTables width times vector k r e (2 ^ length point) count column challenges values (point ++ others))

-- Soundness, for every prover and all columns: a row whose code word agrees with the columns of all tables, and that has the value of the
-- values.
abbrev pub OpenedTablesNeedLuck : Type 0
OpenedTablesNeedLuck =
    (width : ℕ) (times : ℕ → ℕ → ℕ) (vector : ℕ → ℕ) → 0 < width → IsField width times → AreCantorVectors width times vector
    → ((b : ℕ) → b < width → vector b < 2 ^ width)
    → (k r e count : ℕ) (column : ℕ → ℕ → List ℕ) (challenges values point others row places : List ℕ) → r + k ≤ width
    → 2 * e + 2 ^ k ≤ 2 ^ r * 2 ^ k → length others ≡ k → count ≤ 2 ^ length challenges → ((i : ℕ) → slice_index values i < 2 ^ width)
    → ((i : ℕ) → i < count → AreColumnsOf width (2 ^ r * 2 ^ k) (column i))
    → AgreesAt width times vector k r (challenges ++ point) row places (λ i. stacked count (2 ^ length point) column (slice_index places i))
    → multilinear_value times values challenges ≡ multilinear_value times row others
    → ShowsTables width times vector k r e count column challenges values point others row places

-- an opening of roots that is accepted, from some state of a transcript
pub record AcceptedTables {C F : Type 0} (observes gives : C → F → C → Type 0) (passing : C → ℕ → ℕ → Bool)
    (checks gives_bits : C → ℕ → ℕ → C → Type 0) (repr : F → ℕ) (size width : ℕ) (times : ℕ → ℕ → ℕ) (vector : ℕ → ℕ)
    (hash : List ℕ → List ℕ) (digest m n : ℕ) (roots : List (List ℕ)) : Type 0 where
  pub point : List F
  pub sent : SentTables F
  pub old : C
  pub new : C
  pub coordinates : length point ≡ n
  pub digests : (i : ℕ) → i < length roots → HaveDigestSize digest (get_or sent.nodes i [])
  pub verdict : VerifiesTables observes gives passing checks gives_bits repr hash size width times vector m n roots point sent old true new

-- What openings of the same roots show that are accepted, any number of them: there is a function of columns for each root that has all that
-- they open under it, and whatever such functions are, each opening shows its values of these columns; so of the one table to which the
-- columns of a root commit (`TableIsOne`). Or two openings have a collision of the hash function under one of the roots.
abbrev pub TablesAreBound : {C F : Type 0} → (C → F → C → Type 0) → (C → F → C → Type 0) → (C → ℕ → ℕ → Bool) → (C → ℕ → ℕ → C → Type 0)
    → (C → ℕ → ℕ → C → Type 0) → (F → ℕ) → ℕ → ℕ → (ℕ → ℕ → ℕ) → (ℕ → ℕ) → Type 0
TablesAreBound {C} {F} observes gives passing checks gives_bits repr size width times vector =
    IsField width times → AreCantorVectors width times vector → ((b : ℕ) → b < width → vector b < 2 ^ width)
    → ((x : F) → repr x < 2 ^ width) → width ≤ 8 * size
    → (hash : List ℕ → List ℕ) (digest : ℕ) → ((bytes : List ℕ) → length (hash bytes) ≡ digest)
    → (m n e : ℕ) (roots : List (List ℕ)) → word_levels m n ≤ width → 2 * e + 2 ^ row_levels m n ≤ 2 ^ 2 * 2 ^ row_levels m n
    → (count : ℕ)
    (opening : ℕ → AcceptedTables observes gives passing checks gives_bits repr size width times vector hash digest m n roots)
    → (((column : ℕ → ℕ → List ℕ) × ((i : ℕ) → i < length roots → AreColumnsOf width (2 ^ 2 * 2 ^ row_levels m n) (column i)
    × HasSent count
    (λ c. value_columns repr m n (get_or (opening c).sent.columns i []) (get_or (opening c).sent.nodes i []) (opening c).verdict.places)
    (column i)))
    × ((column : ℕ → ℕ → List ℕ) → ((i : ℕ) → i < length roots → AreColumnsOf width (2 ^ 2 * 2 ^ row_levels m n) (column i)
    × HasSent count
    (λ c. value_columns repr m n (get_or (opening c).sent.columns i []) (get_or (opening c).sent.nodes i []) (opening c).verdict.places)
    (column i))
    → (c : ℕ) → c < count
    → ShowsTables width times vector (row_levels m n) 2 e (length roots) column (map repr (opening c).verdict.challenges)
    (map repr (opening c).sent.values) (map repr (take (matrix_rows m n) (opening c).point))
    (map repr (drop (matrix_rows m n) (opening c).point)) (map repr (opening c).sent.row) (opening c).verdict.places))
    ⊎ ((i : ℕ) × (i < length roots) × HaveOtherColumns hash size (word_levels m n) (get_or roots i []) count
    (λ c. value_columns repr m n (get_or (opening c).sent.columns i []) (get_or (opening c).sent.nodes i []) (opening c).verdict.places))

-- ---- bits

-- Of all challenges, points and numbers of places at most the share 2 ^ -bits accepts a row that is not what the challenges and the point
-- fold the near matrix to of the columns of all tables, one above the other, whatever these columns are and whatever is sent.
abbrev pub FewTablesCheat : Type 0
FewTablesCheat =
    (times : ℕ → ℕ → ℕ) (vector : ℕ → ℕ) → IsField 128 times → AreCantorVectors 128 times vector
    → ((b : ℕ) → b < 128 → vector b < 2 ^ 128)
    → (levels m n bits : ℕ) → 6 ≤ m → m ≤ 8 → 6 ≤ n → n ≤ 39 → 2 ^ bits * opening_error levels m n ≤ opening_whole m
    → (word : ℕ → ℕ → ℕ) (prover : List ℕ → ℕ → ℕ) (cheats : List ℕ → Bool)
    → HaveSymbols 128 (2 ^ m * 2 ^ place_bits m n) (2 ^ (levels + matrix_rows m n)) word
    → ((point : List ℕ) → length point ≡ levels + matrix_rows m n
    → IsWordOf times (2 ^ row_levels m n) (2 ^ m * 2 ^ place_bits m n) (point_generator 128 times vector (row_levels m n)) (prover point))
    → ((point : List ℕ) → length point ≡ levels + matrix_rows m n → cheats point ≡ true
    → IsOpened times (2 ^ row_levels m n) (2 ^ m * 2 ^ place_bits m n) (point_generator 128 times vector (row_levels m n))
    (93 * (2 ^ row_levels m n / 64)) (levels + matrix_rows m n) word point (prover point) → ⊥)
    → 2 ^ bits * cheats_in_blocks 128 times (2 ^ place_bits m n) (levels + matrix_rows m n) m word prover cheats
    ≤ (2 ^ 128) ^ (levels + matrix_rows m n) * (2 ^ place_bits m n) ^ 2 ^ m
