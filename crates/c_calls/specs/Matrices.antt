-- What calls over matrices of words do: which status they return, and what they write (K. Hoffman and R. Kunze, Linear Algebra, chapters 1,
-- 2 and 5). The words of a matrix stand row after row.
use Rattle.std.specs.Prelude.{◌≡◌, ◌≢◌, ℕ, ◌+◌, ◌*◌, ◌^◌, ◌<◌, ◌≤◌, List, length, map, slice_index}
use Rattle.field_base.specs.Basis.{sum_below}
use Rattle.field_slices.specs.Determinants.{determinant_of}
use Rattle.field_slices.specs.Matrices.{AreInverseMatrices, HaveSameRowSpace, IsMatrixProduct, IsReducedEchelon, entry_of}
use Rattle.c_calls.specs.Calls.{CallOf}
use Rattle.many_words.specs.Words.{AreElements}
use Rattle.many_words.specs.Fields.{WordField}
use Rattle.c_calls.specs.declared.status.TheConstants.{OK, LENGTH, NOT_AN_ELEMENT}
use Rattle.c_calls.specs.declared.status.TheConstants.{UNSOLVABLE}

-- how a call that solves equations ends: lengths that do not fit are told first, then words that are no elements, and then that there is no
-- solution. Every other call does what it says; and one that does not leaves what it would have written as it was
pub record CallOnEquations {T : Type 0} (fits elements solvable written : Type 0) (old new : T) (status : ℕ) : Type 0 where
  pub length : ¬ fits → status ≡ LENGTH
  pub element : fits → ¬ elements → status ≡ NOT_AN_ELEMENT
  pub unsolvable : fits → elements → ¬ solvable → status ≡ UNSOLVABLE
  pub ok : fits → elements → solvable → (status ≡ OK) × written
  pub kept : status ≢ OK → new ≡ old

-- so many words and places are those of equations, of a right side for each, of a solution, and of the space for a matrix of both
pub record HaveEquationLengths (rows columns words right solution space places : ℕ) : Type 0 where
  pub coefficients : words ≡ rows * columns
  pub right_sides : right ≡ rows
  pub unknowns : solution ≡ columns
  pub few : columns < 2 ^ 63
  pub beside : space ≡ rows * (columns + 1)
  pub each : places ≡ rows

module _ {W : Type 0} (field : WordField W) where
  -- the entries of a matrix of so many columns
  abbrev pub entries : ℕ → List W → ℕ → ℕ → ℕ
  entries columns words = entry_of field.number columns words

  -- a call that writes the product of a matrix of so many rows of `inner` entries and one of `inner` rows of so many columns
  abbrev pub MultipliesMatrices : ℕ → ℕ → ℕ → List W → List W → List W → List W → ℕ → Type 0
  MultipliesMatrices rows inner columns left right old new status =
      CallOf ((length left ≡ rows * inner) × (length right ≡ inner * columns) × (length old ≡ rows * columns))
      (AreElements field left × AreElements field right)
      (IsMatrixProduct field.times rows inner columns (entries inner left) (entries columns right) (entries columns new)) old new status

  -- the matrix that is now there is the reduced row echelon form of the one before, of this rank, its leading entries have the columns with
  -- which `pivots` begins, and behind these `pivots` is as it was
  pub record IsReduced (rows columns : ℕ) (old new : List W) (was pivots : List ℕ) (rank : ℕ) : Type 0 where
    pub elements : AreElements field new
    pub reduced : IsReducedEchelon rows columns rank (slice_index pivots) (entries columns new)
    pub rest : (i : ℕ) → rank ≤ i → slice_index pivots i ≡ slice_index was i
    pub space : HaveSameRowSpace field.times rows columns (entries columns old) (entries columns new)

  -- a call that brings a matrix to that form, and writes the columns and the rank
  abbrev pub ReducesRows : ℕ → ℕ → List W → List ℕ → ℕ → List W → List ℕ → ℕ → ℕ → Type 0
  ReducesRows rows columns old old_pivots old_rank new pivots rank status =
      CallOf {T = List W × List ℕ × ℕ} ((length old ≡ rows * columns) × (length old_pivots ≡ rows)) (AreElements field old)
      (IsReduced rows columns old new old_pivots pivots rank) (old, old_pivots, old_rank) (new, pivots, rank) status

  -- the rank of a matrix is that of its reduced row echelon form, of which there is one
  abbrev pub HasRank : ℕ → ℕ → List W → ℕ → Type 0
  HasRank rows columns words rank =
      (pivot : ℕ → ℕ) × (B : ℕ → ℕ → ℕ)
      × IsReducedEchelon rows columns rank pivot B × HaveSameRowSpace field.times rows columns (entries columns words) B

  -- a call that writes it, in so many words and places of space
  abbrev pub TakesRank : ℕ → ℕ → List W → ℕ → ℕ → ℕ → ℕ → ℕ → Type 0
  TakesRank rows columns words space places old new status =
      CallOf ((length words ≡ rows * columns) × (space ≡ rows * columns) × (places ≡ rows)) (AreElements field words)
      (HasRank rows columns words new) old new status

  -- a call that writes the determinant of a matrix of so many rows and columns
  abbrev pub TakesDeterminant : ℕ → List W → ℕ → W → W → ℕ → Type 0
  TakesDeterminant size words space old new status =
      CallOf ((length words ≡ size * size) × (space ≡ size * size)) (AreElements field words)
      (field.number new ≡ determinant_of field.times size (entries size words)) old new status

  -- a call that writes the inverse of a matrix of so many rows and columns, where it has one
  abbrev pub InvertsMatrix : ℕ → List W → ℕ → ℕ → List W → List W → ℕ → Type 0
  InvertsMatrix size words space places old new status =
      CallOnEquations
      ((length words ≡ size * size) × (length old ≡ size * size) × (space ≡ size * (size + size)) × (places ≡ size))
      (AreElements field words) ((B : ℕ → ℕ → ℕ) × AreInverseMatrices field.times size (entries size words) B)
      (AreElements field new × AreInverseMatrices field.times size (entries size words) (entries size new)) old new status

  -- x solves the equations with these coefficients, a row for each, and these right sides
  abbrev pub AreSolved : ℕ → ℕ → List W → List W → (ℕ → ℕ) → Type 0
  AreSolved rows columns words right x =
      (i : ℕ) → i < rows
      → sum_below (λ j. field.times (entries columns words i j) (x j)) columns ≡ slice_index (map field.number right) i

  -- a call that writes a solution, where there is one; no array has 2 ^ 63 words
  abbrev pub SolvesEquations : ℕ → ℕ → List W → List W → ℕ → ℕ → List W → List W → ℕ → Type 0
  SolvesEquations rows columns words right space places old new status =
      CallOnEquations
      (HaveEquationLengths rows columns (length words) (length right) (length old) space places)
      (AreElements field words × AreElements field right) ((x : ℕ → ℕ) × AreSolved rows columns words right x)
      (AreElements field new × AreSolved rows columns words right (slice_index (map field.number new))) old new status
