-- Tables of multilinear polynomials, committed to by the columns of interleaved code words (S. Ames, C. Hazay, Y. Ishai and
-- M. Venkitasubramaniam, Ligero, 2017, section 4; A. Golovnev, J. Lee, S. Setty, J. Thaler and R. Wahby, Brakedown, 2021, section 4;
-- B. Diamond and J. Posen, Succinct arguments over towers of binary fields, 2023, section 3). The 2 ^ (h + k) values of a polynomial are a
-- matrix by rows of 2 ^ k, of which each is extended to a code word. The first h coordinates of a point say how rows are combined, and the
-- others where the combination, whose polynomial has k coordinates, is evaluated.
use Rattle.std.specs.Prelude.{◌≡◌, ℕ, ◌+◌, ◌*◌, ◌^◌, ◌<◌, ◌≤◌, List, ◌++◌, length, map, slice_index, take}
use Rattle.std.specs.List.{range_with_len}
use Rattle.field_base.specs.Field.{IsField}
use Rattle.field_base.specs.Orders.{AreCantorVectors}
use Rattle.field_base.specs.Ring.{IsRing}
use Rattle.field_bytes.specs.Streams.{joined_bytes}
use Rattle.field_base.specs.PolynomialRoots.{AreDistinctBelow}
use Rattle.field_slices.specs.Multilinear.{AreCornerValues, multilinear_value}
use Rattle.protocols.specs.CodeWords.{IsCodeWordOf}
use Rattle.transcripts.specs.declared.merkle_tree.MerkleTree.{MerkleTree}
use Rattle.transcripts.specs.Commitments.{IsTreeOver, root_of, row_at}
use Rattle.protocols.specs.Interleaved.{AreCodeWords}
use Rattle.transcripts.specs.Openings.{OpensRows}

-- column p of a matrix of so many rows of `size` values, one row after the other
abbrev pub column_at : ℕ → ℕ → List ℕ → ℕ → List ℕ
column_at height size matrix p = map (λ i. slice_index matrix (i * size + p)) (range_with_len 0 height)

-- the values at a point of the polynomials whose corner values are the columns
abbrev pub column_values : (ℕ → ℕ → ℕ) → List ℕ → ℕ → List ℕ → List ℕ
column_values times point size matrix =
    map (λ p. multilinear_value times (column_at (2 ^ length point) size matrix p) point) (range_with_len 0 size)

-- the rows of a matrix are code words, and begin with the rows of the table
pub record ExtendsTable (width : ℕ) (times : ℕ → ℕ → ℕ) (vector : ℕ → ℕ) (k r height : ℕ) (table matrix : List ℕ) : Type 0 where
  pub size : length matrix ≡ height * (2 ^ r * 2 ^ k)
  pub code_words : AreCodeWords width times vector k r height (row_at (2 ^ r * 2 ^ k) matrix)
  pub systematic : (i : ℕ) → i < height → take (2 ^ k) (row_at (2 ^ r * 2 ^ k) matrix i) ≡ row_at (2 ^ k) table i

-- the code word that begins with the row has, at each of these places, the value at the point of the column that is opened there
pub record AgreesAt (width : ℕ) (times : ℕ → ℕ → ℕ) (vector : ℕ → ℕ) (k r : ℕ) (point row places : List ℕ) (column : ℕ → List ℕ) : Type 0 where
  pub word : List ℕ
  pub code_word : IsCodeWordOf width times vector k r word
  pub begins : take (2 ^ k) word ≡ row
  pub below : (i : ℕ) → i < length places → slice_index places i < 2 ^ r * 2 ^ k
  pub agrees : (i : ℕ) → i < length places → multilinear_value times (column i) point ≡ slice_index word (slice_index places i)

-- ---- laws

-- the value of a table at a point is that of the columns' values at the first coordinates, at the others
abbrev pub ColumnValuesEvaluate : Type 0
ColumnValuesEvaluate =
    (width : ℕ) (times : ℕ → ℕ → ℕ) (first others table : List ℕ) → IsRing width 1 times → 0 < width
    → AreCornerValues width (length (first ++ others)) table
    → multilinear_value times table (first ++ others) ≡ multilinear_value times (column_values times first (2 ^ length others) table) others

-- Completeness: the values of an extended table's columns are the code word that begins with the values of the table's columns, and so
-- agree with it at all places.
abbrev pub ColumnValuesAgree : Type 0
ColumnValuesAgree =
    (width : ℕ) (times : ℕ → ℕ → ℕ) (vector : ℕ → ℕ) → 0 < width → IsRing width 1 times
    → (k r : ℕ) (point table matrix places : List ℕ) → ExtendsTable width times vector k r (2 ^ length point) table matrix
    → ((i : ℕ) → i < length places → slice_index places i < 2 ^ r * 2 ^ k)
    → AgreesAt width times vector k r point (column_values times point (2 ^ k) table) places
    (λ i. column_at (2 ^ length point) (2 ^ r * 2 ^ k) matrix (slice_index places i))

-- Soundness: a row that agrees at 2 ^ k different places with an extended table's columns has the table's values. So one that has not
-- agrees at fewer places, of 2 ^ (r + k).
abbrev pub FewPlacesAgree : Type 0
FewPlacesAgree =
    (width : ℕ) (times : ℕ → ℕ → ℕ) (vector : ℕ → ℕ) → 0 < width → IsField width times → AreCantorVectors width times vector
    → ((b : ℕ) → b < width → vector b < 2 ^ width)
    → (k r : ℕ) (point table matrix row places : List ℕ) → r + k ≤ width
    → ExtendsTable width times vector k r (2 ^ length point) table matrix
    → AreDistinctBelow (2 ^ k) (2 ^ r * 2 ^ k) (slice_index places) → 2 ^ k ≤ length places
    → AgreesAt width times vector k r point row places
    (λ i. column_at (2 ^ length point) (2 ^ r * 2 ^ k) matrix (slice_index places i))
    → row ≡ column_values times point (2 ^ k) table

-- ---- commitments and openings

-- columns of `height` elements each, one after the other, are those of a matrix of 2 ^ r * 2 ^ k columns that extends a table
pub record AreExtendedColumns {F : Type 0} (repr : F → ℕ) (width : ℕ) (times : ℕ → ℕ → ℕ) (vector : ℕ → ℕ) (k r height : ℕ) (table : List ℕ)
    (columns : List F) : Type 0 where
  pub matrix : List ℕ
  pub extends : ExtendsTable width times vector k r height table matrix
  pub count : length columns ≡ 2 ^ r * 2 ^ k * height
  pub each : (p : ℕ) → p < 2 ^ r * 2 ^ k → map repr (row_at height columns p) ≡ column_at height (2 ^ r * 2 ^ k) matrix p

-- these columns, of `height` elements each and one after the other, are those of a table at these places
abbrev pub AreColumnsAt : {F : Type 0} → ℕ → List F → List ℕ → List F → Type 0
AreColumnsAt height columns places chosen =
    (length chosen ≡ length places * height)
    × ((i : ℕ) → i < length places → row_at height chosen i ≡ row_at height columns (slice_index places i))

-- nodes open these places of a tree, whatever the hash function and the rows are that it is over
abbrev pub OpensPlaces : {A : Type 0} → MerkleTree A → List ℕ → List (List ℕ) → Type 0
OpensPlaces tree places nodes =
    (hash : List ℕ → List ℕ) (row : ℕ → List ℕ) → IsTreeOver hash row tree
    → OpensRows hash tree.depth (root_of tree) places (λ i. row (slice_index places i)) nodes

-- What a verifier asks of a row and of columns that are opened at places: that nodes open the columns' bytes, of `size` bytes an element,
-- under a root, and that the row's code word agrees with them.
pub record OpensColumns {F : Type 0} (hash : List ℕ → List ℕ) (repr : F → ℕ) (size width : ℕ) (times : ℕ → ℕ → ℕ) (vector : ℕ → ℕ) (k r : ℕ)
    (root : List ℕ) (point row : List F) (places : List ℕ) (columns : List F) (nodes : List (List ℕ)) : Type 0 where
  pub count : length columns ≡ length places * 2 ^ length point
  pub opened : OpensRows hash (r + k) root places (λ i. joined_bytes size repr (row_at (2 ^ length point) columns i)) nodes
  pub agrees : AgreesAt width times vector k r (map repr point) (map repr row) places (λ i. map repr (row_at (2 ^ length point) columns i))

-- What a prover opens at places of columns of 2 ^ h elements each, under their tree: whatever the table, the hash function, the point and the
-- rate are, a verifier accepts it with the row of the columns' values at the point.
abbrev pub IsHonestOpening : {F A : Type 0} → (F → ℕ) → ℕ → ℕ → (ℕ → ℕ → ℕ) → (ℕ → ℕ) → ℕ → MerkleTree A → List F → List ℕ → List F
    → List (List ℕ) → Type 0
IsHonestOpening {F} repr size width times vector h tree columns places opened nodes =
    (hash : List ℕ → List ℕ) (k r : ℕ) (table : List ℕ) (point row : List F) → r + k ≡ tree.depth → length point ≡ h
    → AreExtendedColumns repr width times vector k r (2 ^ h) table columns
    → IsTreeOver hash (λ p. joined_bytes size repr (row_at (2 ^ h) columns p)) tree
    → map repr row ≡ map (λ p. multilinear_value times (map repr (row_at (2 ^ h) columns p)) (map repr point)) (range_with_len 0 (2 ^ k))
    → OpensColumns hash repr size width times vector k r (root_of tree) point row places opened nodes
