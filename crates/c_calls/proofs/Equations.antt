-- Matrices beside the identity matrix and beside right sides, in space of their own.
use Rattle.std.proofs.Common.{◌≡◌, ℕ, ◌+◌, ◌-◌, ◌*◌, ◌<◌, List, map, sym, ◌∙◌, ap, ap₂, arith}
use Rattle.std.specs.Prelude.{slice_index}
use Rattle.field_base.specs.Basis.{sum_below}
use Rattle.field_base.proofs.BasisSums.{sum_below-same}
use Rattle.field_slices.specs.Matrices.{AreInverseMatrices, IsSolution, entry_of, put_entry}
use Rattle.field_slices.proofs.MatrixRows.{put-before, put-inside, put-whole}
use Rattle.many_words.specs.Words.{AreElements}
use Rattle.many_words.specs.Fields.{WordField}
use Rattle.c_calls.specs.Matrices.{AreSolved, entries}
use Rattle.c_calls.specs.Low.{low_number}
use Rattle.c_calls.proofs.LowNumbers.{low_elements}

-- two matrices that agree with two inverse ones are inverse
pub inverse_same : (times : ℕ → ℕ → ℕ) (n : ℕ) (A B A' B' : ℕ → ℕ → ℕ) → ((i j : ℕ) → i < n → j < n → A' i j ≡ A i j)
    → ((i j : ℕ) → i < n → j < n → B' i j ≡ B i j) → AreInverseMatrices times n A B → AreInverseMatrices times n A' B'
inverse_same times n A B A' B' left right inverse = (
  λ i j inside within. inverse.0 i j inside within
      ∙ sum_below-same (λ k. times (A i k) (B k j)) (λ k. times (A' i k) (B' k j)) n
      (λ k below. ap₂ times (sym (left i k inside below)) (sym (right k j below within))),
  λ i j inside within. inverse.1 i j inside within
      ∙ sum_below-same (λ k. times (B i k) (A k j)) (λ k. times (B' i k) (A' k j)) n
      (λ k below. ap₂ times (sym (right i k inside below)) (sym (left k j below within))),
)

module _ {W : Type 0} (field : WordField W) where
  abbrev low : W → ℕ
  low = low_number field.number field.width

  -- an entry of a matrix of elements
  pub low_entry : (columns : ℕ) (words : List W) → AreElements field words → (i j : ℕ)
      → entry_of low columns words i j ≡ entries field columns words i j
  low_entry columns words fits i j = ap (λ (ns : List ℕ). slice_index ns (i * columns + j)) (low_elements field words fits)

  -- an entry of it where it was put into the first columns
  pub first_entry : (columns count : ℕ) (words old : List W) → AreElements field words → (put : ℕ → ℕ → ℕ) (i j : ℕ) → j < count
      → put i j ≡ put_entry 0 count (λ k. entry_of low count words i (0 + k)) (entry_of low columns old i) j
      → put i j ≡ entries field count words i j
  first_entry columns count words old fits put i j inside is =
      let first : 0 + j ≡ j = omega arith in
      is
      ∙ put-whole count (λ k. entry_of low count words i (0 + k)) (entry_of low columns old i) j inside
      ∙ ap (entry_of low count words i) first ∙ low_entry count words fits i j

  module _ (rows columns : ℕ) (words right : List W) (words_fit : AreElements field words) (right_fit : AreElements field right)
      (before first both : List W)
      (put : (i j : ℕ) → i < rows → j < columns + 1 → entry_of low (columns + 1) first i j
      ≡ put_entry 0 columns (λ k. entry_of low columns words i (0 + k)) (entry_of low (columns + 1) before i) j)
      (put' : (i j : ℕ) → i < rows → j < columns + 1 → entry_of low (columns + 1) both i j
      ≡ put_entry columns 1 (λ k. entry_of low 1 right i (0 + k)) (entry_of low (columns + 1) first i) j) where
    -- the coefficients
    coefficient : (i j : ℕ) → i < rows → j < columns → entry_of low (columns + 1) both i j ≡ entries field columns words i j
    coefficient i j inside within =
        put' i j inside (omega (arith, within))
        ∙ put-before columns 1 (λ k. entry_of low 1 right i (0 + k)) (entry_of low (columns + 1) first i) j within
        ∙ first_entry (columns + 1) columns words before words_fit (entry_of low (columns + 1) first) i j within
        (put i j inside (omega (arith, within)))

    -- the right sides
    right_side : (i : ℕ) → i < rows → entry_of low (columns + 1) both i columns ≡ slice_index (map field.number right) i
    right_side i inside =
        let none : 0 + (columns - columns) ≡ 0 = omega arith in
        let at : i * 1 + 0 ≡ i = omega arith in
        put' i columns inside (omega arith)
        ∙ put-inside columns 1 (λ k. entry_of low 1 right i (0 + k)) (entry_of low (columns + 1) first i) columns (omega arith) (omega arith)
        ∙ ap (entry_of low 1 right i) none
        ∙ ap (slice_index (map low right)) at
        ∙ ap (λ (ns : List ℕ). slice_index ns i) (low_elements field right right_fit)

    sums : (x : ℕ → ℕ) (i : ℕ) → i < rows
        → sum_below (λ j. field.times (entry_of low (columns + 1) both i j) (x j)) columns
        ≡ sum_below (λ j. field.times (entries field columns words i j) (x j)) columns
    sums x i inside =
        sum_below-same (λ j. field.times (entry_of low (columns + 1) both i j) (x j))
        (λ j. field.times (entries field columns words i j) (x j)) columns
        (λ j within. ap (λ (a : ℕ). field.times a (x j)) (coefficient i j inside within))

    -- who solves the equations of the matrix beside its right sides solves those of both
    pub solution_is : (x : ℕ → ℕ) → IsSolution field.times rows columns (entry_of low (columns + 1) both) x
        → AreSolved field rows columns words right x
    solution_is x solves i inside = sym (sums x i inside) ∙ solves i inside ∙ right_side i inside

    pub is_solution : (x : ℕ → ℕ) → AreSolved field rows columns words right x
        → IsSolution field.times rows columns (entry_of low (columns + 1) both) x
    is_solution x solves i inside = sums x i inside ∙ solves i inside ∙ sym (right_side i inside)
