-- What functions over low bits of words leave, as calls say it over words that are elements.
use Rattle.std.proofs.Common.{◌≡◌, ℕ, ◌+◌, ◌*◌, ◌≤◌, List, map, sym, ◌∙◌, ap, subst}
use Rattle.std.specs.Prelude.{slice_index}
use Rattle.field_slices.specs.Determinants.{determinant_of}
use Rattle.field_slices.specs.Matrices.{IsMatrixProduct, IsReducedEchelon, HaveSameRowSpace, entry_of}
use Rattle.many_words.specs.Words.{AreElements}
use Rattle.many_words.specs.Fields.{WordField}
use Rattle.c_calls.specs.Matrices.{HasRank, IsReduced, entries}
use Rattle.c_calls.specs.Low.{low_number}
use Rattle.c_calls.proofs.LowNumbers.{low_elements}

-- the entries of a matrix of so many columns, by its numbers
abbrev pub entries_at : ℕ → List ℕ → ℕ → ℕ → ℕ
entries_at columns numbers i j = slice_index numbers (i * columns + j)

module _ {W : Type 0} (field : WordField W) where
  abbrev low : W → ℕ
  low = low_number field.number field.width

  -- a product
  pub product_is : (rows inner columns : ℕ) (left right target product : List W) → AreElements field left → AreElements field right
      → map field.number product ≡ map low target
      → IsMatrixProduct field.times rows inner columns (entry_of low inner left) (entry_of low columns right) (entry_of low columns target)
      → IsMatrixProduct field.times rows inner columns (entries field inner left) (entries field columns right)
      (entries field columns product)
  product_is rows inner columns left right target product left_fits right_fits now is =
      subst
      (λ (ns : List ℕ).
      IsMatrixProduct field.times rows inner columns (entries_at inner ns) (entries field columns right) (entries field columns product))
      (low_elements field left left_fits)
      (subst
      (λ (ns : List ℕ).
      IsMatrixProduct field.times rows inner columns (entry_of low inner left) (entries_at columns ns) (entries field columns product))
      (low_elements field right right_fits)
      (subst
      (λ (ns : List ℕ).
      IsMatrixProduct field.times rows inner columns (entry_of low inner left) (entry_of low columns right) (entries_at columns ns))
      (sym now) is))

  -- a reduced row echelon form
  pub reduced_is : (rows columns rank : ℕ) (was pivots : List ℕ) (old target new : List W) → AreElements field old → AreElements field new
      → map field.number new ≡ map low target
      → IsReducedEchelon rows columns rank (slice_index pivots) (entry_of low columns target)
      → ((i : ℕ) → rank ≤ i → slice_index pivots i ≡ slice_index was i)
      → HaveSameRowSpace field.times rows columns (entry_of low columns old) (entry_of low columns target)
      → IsReduced field rows columns old new was pivots rank
  reduced_is rows columns rank was pivots old target new old_fits new_fits now reduced rest space =
      record {
        elements = new_fits;
        rest = rest;
        reduced = subst (λ (ns : List ℕ). IsReducedEchelon rows columns rank (slice_index pivots) (entries_at columns ns)) (sym now) reduced;
        space =
            subst (λ (ns : List ℕ). HaveSameRowSpace field.times rows columns (entries_at columns ns) (entries field columns new))
            (low_elements field old old_fits)
            (subst (λ (ns : List ℕ). HaveSameRowSpace field.times rows columns (entry_of low columns old) (entries_at columns ns)) (sym now)
            space);
      }

  -- a rank, which a copy of the matrix has
  pub rank_is : (rows columns rank : ℕ) (pivots : List ℕ) (words copy target : List W) → AreElements field words → copy ≡ words
      → IsReducedEchelon rows columns rank (slice_index pivots) (entry_of low columns target)
      → HaveSameRowSpace field.times rows columns (entry_of low columns copy) (entry_of low columns target)
      → HasRank field rows columns words rank
  rank_is rows columns rank pivots words copy target fits same reduced space = (
    slice_index pivots,
    entry_of low columns target,
    reduced,
    subst (λ (ns : List ℕ). HaveSameRowSpace field.times rows columns (entries_at columns ns) (entry_of low columns target))
        (ap (λ (l : List W). map low l) same ∙ low_elements field words fits) space,
  )

  -- a determinant, which it has too
  pub determinant_is : (size value : ℕ) (words copy : List W) → AreElements field words → copy ≡ words
      → value ≡ determinant_of field.times size (entry_of low size copy) → value ≡ determinant_of field.times size (entries field size words)
  determinant_is size value words copy fits same is =
      is
      ∙ ap (λ (ns : List ℕ). determinant_of field.times size (entries_at size ns))
      (ap (λ (l : List W). map low l) same ∙ low_elements field words fits)
