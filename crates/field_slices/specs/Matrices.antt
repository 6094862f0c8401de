-- Matrices over a field whose elements are numbers (K. Hoffman and R. Kunze, Linear Algebra, chapters 1 and 2; R. Lidl and
-- H. Niederreiter, Finite Fields, chapter 1). A matrix is the function of its entries: row i and column j, both from 0, give A i j. A sum
-- is `bit_xor`, and `times` the product of the field.
use Rattle.std.specs.Prelude.{◌≡◌, ◌≢◌, ◌↔◌, ◌⊎◌, ◌==◌, ℕ, zero, suc, ◌+◌, ◌-◌, ◌*◌, ◌^◌, ◌<◌, ◌≤◌, List, bit_xor, if◌then◌else◌, length, map, nat_lt, slice_index}
use Rattle.field_base.specs.Basis.{sum_below}
use Rattle.field_base.specs.Ring.{IsRing}

-- the entries of a matrix of so many columns whose rows stand one behind the other in a list
abbrev pub entry_of : {V : Type 0} → (V → ℕ) → ℕ → List V → ℕ → ℕ → ℕ
entry_of number columns values i j = slice_index (map number values) (i * columns + j)

-- entry (i, j) of the product of two matrices: the sum over k < inner of A i k times B k j (Hoffman and Kunze, section 1.5)
abbrev pub product_entry : (ℕ → ℕ → ℕ) → ℕ → (ℕ → ℕ → ℕ) → (ℕ → ℕ → ℕ) → ℕ → ℕ → ℕ
product_entry times inner A B i j = sum_below (λ k. times (A i k) (B k j)) inner

-- C, of so many rows and columns, is the product of A and B
abbrev pub IsMatrixProduct : (ℕ → ℕ → ℕ) → ℕ → ℕ → ℕ → (ℕ → ℕ → ℕ) → (ℕ → ℕ → ℕ) → (ℕ → ℕ → ℕ) → Type 0
IsMatrixProduct times rows inner columns A B C =
    (i j : ℕ) → i < rows → j < columns → C i j ≡ product_entry times inner A B i j

-- the entries of the identity matrix
abbrev pub identity_entry : ℕ → ℕ → ℕ
identity_entry i j = if i == j then 1 else 0

-- the square matrices A and B of n rows are inverses: both products are the identity matrix (Hoffman and Kunze, section 1.6)
abbrev pub AreInverseMatrices : (ℕ → ℕ → ℕ) → ℕ → (ℕ → ℕ → ℕ) → (ℕ → ℕ → ℕ) → Type 0
AreInverseMatrices times n A B = IsMatrixProduct times n n n A B identity_entry × IsMatrixProduct times n n n B A identity_entry

-- the entries of a matrix of n columns beside the identity matrix
abbrev pub beside_identity : ℕ → (ℕ → ℕ → ℕ) → ℕ → ℕ → ℕ
beside_identity n A i j = if nat_lt j n then A i j else identity_entry i (j - n)

-- entry j of a row in which so many entries from place `from` on are those of another row
abbrev pub put_entry : ℕ → ℕ → (ℕ → ℕ) → (ℕ → ℕ) → ℕ → ℕ
put_entry from count other own j = if nat_lt j from then own j else if nat_lt j (from + count) then other (j - from) else own j

-- x solves the equations whose coefficients are the first `count` columns of A, and whose right sides are the column behind them
abbrev pub IsSolution : (ℕ → ℕ → ℕ) → ℕ → ℕ → (ℕ → ℕ → ℕ) → (ℕ → ℕ) → Type 0
IsSolution times rows count A x = (i : ℕ) → i < rows → sum_below (λ j. times (A i j) (x j)) count ≡ A i count

-- the vector v is a combination of the rows of A: the sum of these times coefficients c 0, c 1, ..
abbrev pub IsRowCombination : (ℕ → ℕ → ℕ) → ℕ → ℕ → (ℕ → ℕ → ℕ) → (ℕ → ℕ) → Type 0
IsRowCombination times rows columns A v =
    (c : ℕ → ℕ) × ((j : ℕ) → j < columns → v j ≡ sum_below (λ i. times (c i) (A i j)) rows)

-- the rows of both matrices span one space: what is a combination of the rows of one is a combination of those of the other
abbrev pub HaveSameRowSpace : (ℕ → ℕ → ℕ) → ℕ → ℕ → (ℕ → ℕ → ℕ) → (ℕ → ℕ → ℕ) → Type 0
HaveSameRowSpace times rows columns A B =
    (v : ℕ → ℕ) → IsRowCombination times rows columns A v ↔ IsRowCombination times rows columns B v

-- A is in reduced row echelon form, of this rank, with these columns of its leading entries (Hoffman and Kunze, section 1.4)
pub record IsReducedEchelon (rows columns rank : ℕ) (pivot : ℕ → ℕ) (A : ℕ → ℕ → ℕ) : Type 0 where
  pub rank_fits : rank ≤ rows
  pub pivots_fit : (i : ℕ) → i < rank → pivot i < columns
  pub pivots_rise : (i k : ℕ) → i < k → k < rank → pivot i < pivot k
  -- the leading entry of a row is 1, and stands behind zeros and alone in its column
  pub leading : (i : ℕ) → i < rank → A i (pivot i) ≡ 1
  pub zeros_before : (i j : ℕ) → i < rank → j < pivot i → A i j ≡ 0
  pub alone : (i k : ℕ) → i < rank → k < rows → k ≢ i → A k (pivot i) ≡ 0
  -- the other rows are 0, and come last
  pub zero_rows : (i j : ℕ) → rank ≤ i → i < rows → j < columns → A i j ≡ 0

-- row operations made what a list reads as, a matrix, one whose first `count` columns are in reduced row echelon form, of this rank, and
-- `pivots`, a list of as many places as before, begins with the columns of the leading entries, and is behind these as it was
pub record AreRowsReduced {V : Type 0} (read : List V → ℕ → ℕ → ℕ) (times : ℕ → ℕ → ℕ) (rows columns count rank : ℕ) (old now : List V)
    (was pivots : List ℕ) : Type 0 where
  pub shape : length now ≡ length old
  pub room : length pivots ≡ length was
  pub reduced : IsReducedEchelon rows count rank (slice_index pivots) (read now)
  pub rest : (i : ℕ) → rank ≤ i → slice_index pivots i ≡ slice_index was i
  pub space : HaveSameRowSpace times rows columns (read old) (read now)

-- a row space has one matrix in reduced row echelon form: two of the same space have the same rank, the same columns of leading entries,
-- and the same entries (Hoffman and Kunze, section 2.5)
abbrev pub ReducedEchelonIsUnique : Type 0
ReducedEchelonIsUnique = (width : ℕ) (times : ℕ → ℕ → ℕ) (rows columns r s : ℕ) (p q : ℕ → ℕ) (A B : ℕ → ℕ → ℕ)
    → IsRing width 1 times → ((i j : ℕ) → A i j < 2 ^ width) → ((i j : ℕ) → B i j < 2 ^ width)
    → IsReducedEchelon rows columns r p A → IsReducedEchelon rows columns s q B → HaveSameRowSpace times rows columns A B
    → (r ≡ s) × ((i : ℕ) → i < r → p i ≡ q i) × ((i j : ℕ) → i < rows → j < columns → A i j ≡ B i j)

-- ---- null spaces

-- A x = 0 (Hoffman and Kunze, section 1.2)
abbrev pub IsNullVector : (ℕ → ℕ → ℕ) → ℕ → ℕ → (ℕ → ℕ → ℕ) → (ℕ → ℕ) → Type 0
IsNullVector times rows columns A x = (i : ℕ) → i < rows → sum_below (λ j. times (A i j) (x j)) columns ≡ 0

-- what matrices with the same row space take to 0 is the same (Hoffman and Kunze, section 1.3)
abbrev pub NullSpaceIsKept : Type 0
NullSpaceIsKept = (width : ℕ) (times : ℕ → ℕ → ℕ) (rows columns : ℕ) (A B : ℕ → ℕ → ℕ) → IsRing width 1 times
    → ((i j : ℕ) → A i j < 2 ^ width) → ((i j : ℕ) → B i j < 2 ^ width) → HaveSameRowSpace times rows columns A B
    → (x : ℕ → ℕ) → IsNullVector times rows columns A x ↔ IsNullVector times rows columns B x

-- the first `count` rows of B are a basis of the null space of A (Hoffman and Kunze, sections 2.3 and 3.1)
pub record IsNullBasis (width : ℕ) (times : ℕ → ℕ → ℕ) (rows columns count : ℕ) (A B : ℕ → ℕ → ℕ) : Type 0 where
  -- they lie in it, and what lies in it is a combination of them
  pub null : (q : ℕ) → q < count → IsNullVector times rows columns A (B q)
  pub spans : (x : ℕ → ℕ) → ((j : ℕ) → x j < 2 ^ width) → IsNullVector times rows columns A x → IsRowCombination times count columns B x
  -- each has a column where it is 1 and the others are 0, so that none is a combination of the others
  pub alone : (q : ℕ) → q < count → (f : ℕ) × (f < columns) × ((m : ℕ) → m < count → B m f ≡ identity_entry m q)

-- entry j of the vector of column f, of the first n columns of leading entries: 1 for j = f, what row k has in column f where j is the
-- column of its leading entry, and else 0
unfoldable pub null_entry : (ℕ → ℕ) → (ℕ → ℕ → ℕ) → ℕ → ℕ → ℕ → ℕ
null_entry pivot A f zero j = identity_entry f j
null_entry pivot A f (suc n) j = if j == pivot n then A n f else null_entry pivot A f n j

-- ---- what functions that read and write a matrix need and leave

-- a list of so many places has the rows of a matrix one behind the other, and this row is one of them
pub record HasMatrixRow (rows columns row len : ℕ) : Type 0 where
  pub shape : len ≡ rows * columns
  pub row_within : row < rows

-- this row and column are those of an entry
pub record HasMatrixEntry (rows columns row column len : ℕ) : Type 0 where
  pub shape : len ≡ rows * columns
  pub row_within : row < rows
  pub column_within : column < columns

-- of the matrix that a list reads as, the entry in this row and column has a value, and the others are as they were
pub record IsEntryWritten {V : Type 0} (read : List V → ℕ → ℕ → ℕ) (columns row column value : ℕ) (old now : List V) : Type 0 where
  pub shape : length now ≡ length old
  pub written : read now row column ≡ value
  pub others : (i j : ℕ) → j < columns → (i ≢ row) ⊎ (j ≢ column) → read now i j ≡ read old i j

-- of the matrix that a list reads as, the row has these entries, and the other rows are as they were
pub record IsRowWritten {V : Type 0} (read : List V → ℕ → ℕ → ℕ) (columns row : ℕ) (wanted : ℕ → ℕ) (old now : List V) : Type 0 where
  pub shape : length now ≡ length old
  pub entries : (j : ℕ) → j < columns → read now row j ≡ wanted j
  pub others : (i j : ℕ) → i ≢ row → j < columns → read now i j ≡ read old i j

-- each of the numbers that are now there is the sum of the one before and a scalar times another at its place
abbrev pub AreScaledSums : (ℕ → ℕ → ℕ) → ℕ → List ℕ → List ℕ → List ℕ → Type 0
AreScaledSums times scalar others old now =
    (k : ℕ) → k < length old → slice_index now k ≡ bit_xor (slice_index old k) (times scalar (slice_index others k))

-- entry j of a row after another row was added to it, and of a row alone
abbrev pub joined_entry : ℕ → ℕ → (ℕ → ℕ → ℕ) → ℕ → ℕ
joined_entry row other A j = if other == row then A row j else bit_xor (A row j) (A other j)

-- entry (i, j) of a matrix after multiples of a row that is 1 in a column were added to the others, so that these are 0 there
abbrev pub cleared_entry : (ℕ → ℕ → ℕ) → ℕ → ℕ → (ℕ → ℕ → ℕ) → ℕ → ℕ → ℕ
cleared_entry times row column A i j = if i == row then A i j else bit_xor (A i j) (times (A i column) (A row j))
