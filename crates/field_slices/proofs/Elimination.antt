-- Elimination: what a row operation keeps, and how the reduced row echelon form grows by a column.
use Rattle.std.proofs.Common.{◌≡◌, ◌≢◌, ◌⊎◌, inl, inr, ℕ, ◌+◌, ◌^◌, ◌<◌, ◌≤◌, Bool, List, length, set, refl, sym, subst, ◌∙◌, ap, ap₂, arith, below_more}
use Rattle.std.specs.Prelude.{bit_xor, if◌then◌else◌, slice_index}
use Rattle.std.proofs.lemmas.Bool.{cases_eq, cases_lt, eq-eqb, ne_eqb}
use Rattle.std.proofs.lemmas.List.{get_or-set_same, get_or-set_other}
use Rattle.std.proofs.lemmas.Nat.{pow_below}
use lib.Bits.{xor_self, xor_zero_r}
use Rattle.field_base.specs.Ring.{IsRing}
use Rattle.field_base.proofs.RingLemmas.{times-zero, xor_back}
use Rattle.field_base.proofs.PowerLemmas.{one-times, times-one}
use Rattle.field_slices.specs.Matrices.{AreRowsReduced, IsRowCombination, HaveSameRowSpace, IsReducedEchelon, IsRowWritten, cleared_entry, joined_entry}
use Rattle.field_slices.proofs.MatrixRows.{RowsWritten, mixed, mixed-before, mixed-past, rows_end, rows_from}
use Rattle.field_slices.proofs.RowSpaces.{same_space, space_same, space_then, combination_row, combination_rows, combination_multiple}

-- ---- a row that is added, and rows that are cleared

module _ (row other : ℕ) (A : ℕ → ℕ → ℕ) (j : ℕ) where
  pub joined-same : other ≡ row → joined_entry row other A j ≡ A row j
  joined-same same = ap (λ (b : Bool). if b then A row j else bit_xor (A row j) (A other j)) (eq-eqb other row same)

  pub joined-other : other ≢ row → joined_entry row other A j ≡ bit_xor (A row j) (A other j)
  joined-other differs = ap (λ (b : Bool). if b then A row j else bit_xor (A row j) (A other j)) (ne_eqb other row differs)

module _ (times : ℕ → ℕ → ℕ) (row column : ℕ) (A : ℕ → ℕ → ℕ) (i j : ℕ) where
  pub cleared-own : i ≡ row → cleared_entry times row column A i j ≡ A i j
  cleared-own same = ap (λ (b : Bool). if b then A i j else bit_xor (A i j) (times (A i column) (A row j))) (eq-eqb i row same)

  pub cleared-other : i ≢ row → cleared_entry times row column A i j ≡ bit_xor (A i j) (times (A i column) (A row j))
  cleared-other differs =
      ap (λ (b : Bool). if b then A i j else bit_xor (A i j) (times (A i column) (A row j))) (ne_eqb i row differs)

-- the rows from row `from` on are to be cleared, and those before it stay
abbrev pub cleared_from : (ℕ → ℕ → ℕ) → ℕ → ℕ → ℕ → (ℕ → ℕ → ℕ) → ℕ → ℕ → ℕ
cleared_from times from row column A = mixed from A (cleared_entry times row column A)

module _ {V : Type 0} {read : List V → ℕ → ℕ → ℕ} {columns : ℕ} (times : ℕ → ℕ → ℕ) (from row column : ℕ) {old : List V} where
  -- at first none is
  pub cleared-start : RowsWritten read columns (cleared_from times from row column (read old)) old old from
  cleared-start =
      let A = read old in
      rows_from
      (λ i j before inside. ap (λ (w : ℕ → ℕ). w j) (sym (mixed-before from A (cleared_entry times row column A) i before)))

  module _ {now : List V} {n : ℕ}
      (so_far : RowsWritten read columns (cleared_from times from row column (read old)) old now n) where
    -- the row that clears the others stays
    clearing-stays : (j : ℕ) → j < columns → read now row j ≡ read old row j
    clearing-stays j inside =
        elim (cases_lt row n) [
          | inl below ↦ so_far.done row j below inside ∙ own (cases_lt row from)
          | inr past ↦ so_far.rest row j past inside
        ]
      where
        own : (row < from) ⊎ (from ≤ row) → cleared_from times from row column (read old) row j ≡ read old row j
        own (inl before) =
            ap (λ (w : ℕ → ℕ). w j)
            (mixed-before from (read old) (cleared_entry times row column (read old)) row before)
        own (inr past) =
            ap (λ (w : ℕ → ℕ). w j)
            (mixed-past from (read old) (cleared_entry times row column (read old)) row past)
            ∙ cleared-own times row column (read old) row j refl

    -- so that what the next row is to become can be said by the entries as they are
    pub cleared-step : column < columns → from ≤ n → (j : ℕ) → j < columns
        → cleared_entry times row column (read now) n j
        ≡ cleared_from times from row column (read old) n j
    cleared-step within reached j inside =
        elim (cases_eq n row) [
          | inl same ↦ cleared-own times row column (read now) n j same ∙ so_far.rest n j (omega arith) inside
              ∙ sym (cleared-own times row column (read old) n j same) ∙ sym later
          | inr other ↦ cleared-other times row column (read now) n j other
              ∙ ap₂ bit_xor (so_far.rest n j (omega arith) inside)
              (ap₂ times (so_far.rest n column (omega arith) within) (clearing-stays j inside))
              ∙ sym (cleared-other times row column (read old) n j other) ∙ sym later
        ]
      where
        later : cleared_from times from row column (read old) n j
            ≡ cleared_entry times row column (read old) n j
        later =
            ap (λ (w : ℕ → ℕ). w j)
            (mixed-past from (read old) (cleared_entry times row column (read old)) n reached)

    pub cleared-end : (rows : ℕ) → rows ≤ n → (i j : ℕ) → from ≤ i → i < rows → j < columns
        → read now i j ≡ cleared_entry times row column (read old) i j
    cleared-end rows past i j reached below inside =
        rows_end so_far rows past i j below inside
        ∙ ap (λ (w : ℕ → ℕ). w j)
        (mixed-past from (read old) (cleared_entry times row column (read old)) i reached)

-- ---- a pivot

-- the entry of the pivot is not 0 after the row that is not 0 was added to a row that is
pub brought-nonzero : (columns rank row column : ℕ) (old brought : ℕ → ℕ → ℕ) → column < columns
    → (row ≡ rank → (j : ℕ) → j < columns → brought rank j ≡ old rank j)
    → (row ≢ rank → (j : ℕ) → j < columns → brought rank j ≡ bit_xor (old rank j) (old row j))
    → old row column ≢ 0 → (row ≢ rank → old rank column ≡ 0) → brought rank column ≢ 0
brought-nonzero columns rank row column old brought within same other nonzero first =
    elim (cases_eq row rank) [
      | inl own ↦ λ e. nonzero (ap (λ (k : ℕ). old k column) own ∙ sym (same own column within) ∙ e)
      | inr another ↦ λ e.
          nonzero (ap (λ (x : ℕ). bit_xor x (old row column)) (sym (first another)) ∙ sym (other another column within) ∙ e)
    ]

-- what a pivot leaves
pub record PivotMade (times : ℕ → ℕ → ℕ) (rows columns rank row column : ℕ) (old now : ℕ → ℕ → ℕ) : Type 0 where
  pub leading : now rank column ≡ 1
  pub alone : (i : ℕ) → i < rows → i ≢ rank → now i column ≡ 0
  pub stays : (i j : ℕ) → i < rows → j < columns → old rank j ≡ 0 → old row j ≡ 0 → now i j ≡ old i j
  pub space : HaveSameRowSpace times rows columns old now

-- ---- row spaces

-- what holds of one row and of the others
row_by_row : (P : ℕ → Type 0) (rows rank : ℕ) → P rank → ((i : ℕ) → i < rows → i ≢ rank → P i) → (i : ℕ) → i < rows → P i
row_by_row P rows rank own others i below =
    elim (cases_eq i rank) [
      | inl same ↦ subst P (sym same) own
      | inr other ↦ others i below other
    ]

-- matrices of which one row is said apart
module _ {width : ℕ} {times : ℕ → ℕ → ℕ} (ring : IsRing width 1 times) (rows columns rank : ℕ) (A B : ℕ → ℕ → ℕ)
    (A_fits : (i j : ℕ) → A i j < 2 ^ width) (B_fits : (i j : ℕ) → B i j < 2 ^ width)
    (there : IsRowCombination times rows columns A (B rank)) (back : IsRowCombination times rows columns B (A rank)) where
  space_of_rows : ((i : ℕ) → i < rows → i ≢ rank → IsRowCombination times rows columns A (B i))
      → ((i : ℕ) → i < rows → i ≢ rank → IsRowCombination times rows columns B (A i)) → HaveSameRowSpace times rows columns A B
  space_of_rows there_others back_others =
      same_space width times ring rows columns A B
      (row_by_row (λ i. IsRowCombination times rows columns A (B i)) rows rank there there_others)
      (row_by_row (λ i. IsRowCombination times rows columns B (A i)) rows rank back back_others)

  -- and the others are the same in both
  space_of_row : ((i j : ℕ) → i ≢ rank → j < columns → B i j ≡ A i j) → HaveSameRowSpace times rows columns A B
  space_of_row rest =
      space_of_rows
      (λ i below other. combination_row width times ring rows columns A A_fits i (B i) below (λ j inside. rest i j other inside))
      (λ i below other. combination_row width times ring rows columns B B_fits i (A i) below (λ j inside. sym (rest i j other inside)))

-- ---- the steps of a pivot

-- What the three steps of a pivot do: `brought` has row `row` added to row `rank`, where it is another; `scaled` has row `rank` times
-- `inverse`; and `cleared` has multiples of row `rank` added to the others.
module _ {width : ℕ} {times : ℕ → ℕ → ℕ} (ring : IsRing width 1 times) (rows columns rank row column : ℕ)
    (rank_within : rank < rows) (row_within : row < rows) (column_within : column < columns)
    (old brought scaled cleared : ℕ → ℕ → ℕ)
    (old_fits : (i j : ℕ) → old i j < 2 ^ width) (brought_fits : (i j : ℕ) → brought i j < 2 ^ width)
    (scaled_fits : (i j : ℕ) → scaled i j < 2 ^ width) (cleared_fits : (i j : ℕ) → cleared i j < 2 ^ width)
    (brings_same : row ≡ rank → (j : ℕ) → j < columns → brought rank j ≡ old rank j)
    (brings_other : row ≢ rank → (j : ℕ) → j < columns → brought rank j ≡ bit_xor (old rank j) (old row j))
    (brings_rest : (i j : ℕ) → i ≢ rank → j < columns → brought i j ≡ old i j) where
  brought-space : HaveSameRowSpace times rows columns old brought
  brought-space =
      space_of_row ring rows columns rank old brought old_fits brought_fits (there (cases_eq row rank)) (back (cases_eq row rank))
      brings_rest
    where
      one_of : (x : ℕ) → x < 2 ^ width → x ≡ times 1 x
      one_of x fits = sym (one-times width 1 times ring x fits)

      there : (row ≡ rank) ⊎ (row ≡ rank → ⊥) → IsRowCombination times rows columns old (brought rank)
      there (inl own) =
          combination_row width times ring rows columns old old_fits rank (brought rank) rank_within (λ j inside. brings_same own j inside)
      there (inr other) =
          combination_rows width times ring rows columns old old_fits rank row 1 (brought rank) rank_within row_within
          (λ j inside. brings_other other j inside ∙ ap (bit_xor (old rank j)) (one_of (old row j) (old_fits row j)))

      back : (row ≡ rank) ⊎ (row ≡ rank → ⊥) → IsRowCombination times rows columns brought (old rank)
      back (inl own) =
          combination_row width times ring rows columns brought brought_fits rank (old rank) rank_within
          (λ j inside. sym (brings_same own j inside))
      back (inr other) =
          combination_rows width times ring rows columns brought brought_fits rank row 1 (old rank) rank_within row_within
          (λ j inside.
          sym (xor_back (old rank j) (old row j))
          ∙ ap₂ bit_xor (sym (brings_other other j inside)) (sym (brings_rest row j other inside) ∙ one_of (brought row j) (brought_fits row j)))

  module _ (inverse : ℕ) (inverts : times (brought rank column) inverse ≡ 1) (one_fits : 1 < 2 ^ width)
      (scales : (j : ℕ) → j < columns → scaled rank j ≡ times inverse (brought rank j))
      (scales_rest : (i j : ℕ) → i ≢ rank → j < columns → scaled i j ≡ brought i j)
      (clears : (i j : ℕ) → i < rows → i ≢ rank → j < columns → cleared i j ≡ bit_xor (scaled i j) (times (scaled i column) (scaled rank j)))
      (clears_own : (j : ℕ) → j < columns → cleared rank j ≡ scaled rank j) where
    scaled-space : HaveSameRowSpace times rows columns brought scaled
    scaled-space =
        space_of_row ring rows columns rank brought scaled brought_fits scaled_fits
        (combination_multiple width times ring rows columns brought rank inverse (scaled rank) rank_within (λ j inside. scales j inside))
        (combination_multiple width times ring rows columns scaled rank (brought rank column) (brought rank) rank_within
        (λ j inside.
        sym (one-times width 1 times ring (brought rank j) (brought_fits rank j))
        ∙ ap (λ (x : ℕ). times x (brought rank j)) (sym inverts) ∙ ring.assoc (brought rank column) inverse (brought rank j)
        ∙ ap (times (brought rank column)) (sym (scales j inside)))) scales_rest

    cleared-space : HaveSameRowSpace times rows columns scaled cleared
    cleared-space =
        space_of_rows ring rows columns rank scaled cleared scaled_fits cleared_fits
        (combination_row width times ring rows columns scaled scaled_fits rank (cleared rank) rank_within (λ j inside. clears_own j inside))
        (combination_row width times ring rows columns cleared cleared_fits rank (scaled rank) rank_within
        (λ j inside. sym (clears_own j inside)))
        (λ i below other. combination_rows width times ring rows columns scaled scaled_fits i rank (scaled i column) (cleared i) below rank_within
        (λ j inside. clears i j below other inside))
        (λ i below other. combination_rows width times ring rows columns cleared cleared_fits i rank (scaled i column) (scaled i) below rank_within
        (λ j inside.
        sym (xor_back (scaled i j) (times (scaled i column) (scaled rank j)))
        ∙ ap₂ bit_xor (sym (clears i j below other inside)) (ap (times (scaled i column)) (sym (clears_own j inside)))))

    pivot-space : HaveSameRowSpace times rows columns old cleared
    pivot-space =
        space_then width times ring rows columns old brought cleared brought-space
        (space_then width times ring rows columns brought scaled cleared scaled-space cleared-space)

    -- the pivot is 1
    scaled-one : scaled rank column ≡ 1
    scaled-one = scales column column_within ∙ ring.comm inverse (brought rank column) ∙ inverts

    pivot-leading : cleared rank column ≡ 1
    pivot-leading = clears_own column column_within ∙ scaled-one

    -- and the rest of its column is 0
    pivot-alone : (i : ℕ) → i < rows → i ≢ rank → cleared i column ≡ 0
    pivot-alone i below other =
        clears i column below other column_within
        ∙ ap (bit_xor (scaled i column))
        (ap (times (scaled i column)) scaled-one ∙ times-one width 1 times ring (scaled i column) (scaled_fits i column))
        ∙ xor_self (scaled i column)

    -- a column that is 0 in both rows stays
    module _ (j : ℕ) (inside : j < columns) (rank_zero : old rank j ≡ 0) (row_zero : old row j ≡ 0) where
      brought-zero : (row ≡ rank) ⊎ (row ≡ rank → ⊥) → brought rank j ≡ 0
      brought-zero (inl same) = brings_same same j inside ∙ rank_zero
      brought-zero (inr other) = brings_other other j inside ∙ ap₂ bit_xor rank_zero row_zero

      scaled-zero : scaled rank j ≡ 0
      scaled-zero = scales j inside ∙ ap (times inverse) (brought-zero (cases_eq row rank)) ∙ times-zero width 1 times ring inverse

      pivot-stays : (i : ℕ) → i < rows → cleared i j ≡ old i j
      pivot-stays i below =
          elim (cases_eq i rank) [
            | inl same ↦ ap (λ (k : ℕ). cleared k j) same ∙ clears_own j inside ∙ scaled-zero ∙ sym rank_zero
                ∙ ap (λ (k : ℕ). old k j) (sym same)
            | inr other ↦ clears i j below other inside
                ∙ ap (bit_xor (scaled i j)) (ap (times (scaled i column)) scaled-zero ∙ times-zero width 1 times ring (scaled i column))
                ∙ xor_zero_r (scaled i j) ∙ scales_rest i j other inside ∙ brings_rest i j other inside
          ]

    pub pivot-made : PivotMade times rows columns rank row column old cleared
    pivot-made = record {
      leading = pivot-leading;
      alone = pivot-alone;
      stays = λ i j within inside rank_zero row_zero. pivot-stays j inside rank_zero row_zero i within;
      space = pivot-space;
    }

-- a row was brought to where the pivot is to be
module _ {V : Type 0} {read : List V → ℕ → ℕ → ℕ} {columns rank row column : ℕ} (column_within : column < columns) {old brought : List V}
    (brings : IsRowWritten read columns rank (joined_entry rank row (read old)) old brought) where
  pub joins_same : row ≡ rank → (j : ℕ) → j < columns → read brought rank j ≡ read old rank j
  joins_same own j inside = brings.entries j inside ∙ joined-same rank row (read old) j own

  pub joins_other : row ≢ rank → (j : ℕ) → j < columns → read brought rank j ≡ bit_xor (read old rank j) (read old row j)
  joins_other other j inside = brings.entries j inside ∙ joined-other rank row (read old) j other

  pub joined-nonzero : read old row column ≢ 0 → (row ≢ rank → read old rank column ≡ 0) → read brought rank column ≢ 0
  joined-nonzero = brought-nonzero columns rank row column (read old) (read brought) column_within joins_same joins_other

  pub pivot-written : {width : ℕ} {times : ℕ → ℕ → ℕ} → IsRing width 1 times → 0 < width
      → ((values : List V) (i j : ℕ) → read values i j < 2 ^ width) → {rows inverse : ℕ} → rank < rows → row < rows
      → {scaled cleared : List V} → times (read brought rank column) inverse ≡ 1
      → IsRowWritten read columns rank (λ j. times inverse (read brought rank j)) brought scaled
      → ((i j : ℕ) → i < rows → j < columns → read cleared i j ≡ cleared_entry times rank column (read scaled) i j)
      → PivotMade times rows columns rank row column (read old) (read cleared)
  pivot-written {width} {times} ring wide fits {rows} {inverse} rank_within row_within {scaled} {cleared} inverts scales clears =
      pivot-made ring rows columns rank row column rank_within row_within column_within (read old) (read brought) (read scaled) (read cleared)
      (fits old) (fits brought) (fits scaled) (fits cleared) joins_same joins_other brings.others
      inverse inverts (pow_below 0 width wide) scales.entries scales.others
      (λ i j below other inside. clears i j below inside ∙ cleared-other times rank column (read scaled) i j other)
      (λ j inside. clears rank j rank_within inside ∙ cleared-own times rank column (read scaled) rank j refl)

-- ---- the form

-- of no column every matrix is in reduced row echelon form
pub echelon_start : (rows : ℕ) (pivot : ℕ → ℕ) (A : ℕ → ℕ → ℕ) → IsReducedEchelon rows 0 0 pivot A
echelon_start rows pivot A = record {
  rank_fits = omega arith;
  pivots_fit = λ i below. absurd (omega (arith, below));
  pivots_rise = λ i k order below. absurd (omega (arith, below));
  leading = λ i below. absurd (omega (arith, below));
  zeros_before = λ i j below before. absurd (omega (arith, below));
  alone = λ i k below within other. absurd (omega (arith, below));
  zero_rows = λ i j past within inside. absurd (omega (arith, inside));
}

-- a column that is 0 from row `rank` on adds no pivot
pub echelon_skip : (rows column rank : ℕ) (pivot : ℕ → ℕ) (A : ℕ → ℕ → ℕ)
    → ((i : ℕ) → rank ≤ i → i < rows → A i column ≡ 0) → IsReducedEchelon rows column rank pivot A
    → IsReducedEchelon rows (column + 1) rank pivot A
echelon_skip rows column rank pivot A zeros so_far = record {
  rank_fits = so_far.rank_fits;
  pivots_fit = λ i below. let fits = so_far.pivots_fit i below in omega (arith, fits);
  pivots_rise = so_far.pivots_rise;
  leading = so_far.leading;
  zeros_before = so_far.zeros_before;
  alone = so_far.alone;
  zero_rows = λ i j past within inside.
      below_more (λ k. A i k ≡ 0) column (λ k before. so_far.zero_rows i k past within before) (zeros i past within) j inside;
}

-- where each row has its pivot the form is that of any more columns
pub echelon_full : (rows column count rank : ℕ) (pivot : ℕ → ℕ) (A : ℕ → ℕ → ℕ) → rank ≡ rows → column ≤ count
    → IsReducedEchelon rows column rank pivot A → IsReducedEchelon rows count rank pivot A
echelon_full rows column count rank pivot A full more so_far = record {
  rank_fits = so_far.rank_fits;
  pivots_fit = λ i below. let fits = so_far.pivots_fit i below in omega (arith, fits, more);
  pivots_rise = so_far.pivots_rise;
  leading = so_far.leading;
  zeros_before = so_far.zeros_before;
  alone = so_far.alone;
  zero_rows = λ i j past within inside. absurd (omega (arith, full, past, within));
}

-- a column with a pivot adds a row
module _ (rows column rank : ℕ) (pivot pivot_next : ℕ → ℕ) (A B : ℕ → ℕ → ℕ) (rank_within : rank < rows)
    (keeps : (i : ℕ) → i < rank → pivot_next i ≡ pivot i) (adds : pivot_next rank ≡ column)
    (leads : B rank column ≡ 1) (clears : (i : ℕ) → i < rows → i ≢ rank → B i column ≡ 0)
    (stays : (i j : ℕ) → i < rows → j < column → B i j ≡ A i j)
    (so_far : IsReducedEchelon rows column rank pivot A) where
  -- what holds of the rows before, and of the new one, holds of all up to it
  each_row : (P : ℕ → Type 0) → ((i : ℕ) → i < rank → P i) → P rank → (i : ℕ) → i < rank + 1 → P i
  each_row P before own i below = below_more P rank before own i below

  inside_before : (i : ℕ) → i < rank → i < rows
  inside_before i below = omega (arith, below, rank_within)

  at_before : (i k : ℕ) → i < rank → k < rows → B k (pivot_next i) ≡ A k (pivot i)
  at_before i k below within = ap (B k) (keeps i below) ∙ stays k (pivot i) within (so_far.pivots_fit i below)

  pub echelon_more : IsReducedEchelon rows (column + 1) (rank + 1) pivot_next B
  echelon_more = record {
    rank_fits = omega (arith, rank_within);
    pivots_fit =
        each_row (λ i. pivot_next i < column + 1)
        (λ i below. let is = keeps i below in let fits = so_far.pivots_fit i below in omega (arith, is, fits)) (omega (arith, adds));
    pivots_rise = λ i k order below. rises i k order below;
    leading =
        each_row (λ i. B i (pivot_next i) ≡ 1)
        (λ i below. at_before i i below (inside_before i below) ∙ so_far.leading i below) (ap (B rank) adds ∙ leads);
    zeros_before = λ i j below before. before_pivot j i below before;
    alone = λ i k below within other.
        each_row (λ m. k ≢ m → B k (pivot_next m) ≡ 0)
        (λ m before differs. at_before m k before within ∙ so_far.alone m k before within differs)
        (λ differs. ap (B k) adds ∙ clears k within differs) i below other;
    zero_rows = λ i j past within inside.
        below_more (λ k. B i k ≡ 0) column
        (λ k before. stays i k within before ∙ so_far.zero_rows i k (omega (arith, past)) within before)
        (clears i within (λ e. absurd (omega (arith, e, past)))) j inside;
  }
    where
      rises : (i k : ℕ) → i < k → k < rank + 1 → pivot_next i < pivot_next k
      rises i k order below =
          elim (cases_eq k rank) [
            | inl same ↦ last i k order same
            | inr other ↦ earlier i k order (less k below other)
          ]
        where
          last : (i k : ℕ) → i < k → k ≡ rank → pivot_next i < pivot_next k
          last i k order same =
              let before : i < rank = omega (arith, order, same) in
              let own = ap pivot_next same ∙ adds in
              let is = keeps i before in
              let fits = so_far.pivots_fit i before in
              omega (arith, own, is, fits)

          earlier : (i k : ℕ) → i < k → k < rank → pivot_next i < pivot_next k
          earlier i k order before =
              let is = keeps i (omega (arith, order, before)) in
              let other_is = keeps k before in
              let rise = so_far.pivots_rise i k order before in
              omega (arith, is, other_is, rise)

          less : (k : ℕ) → k < rank + 1 → (k ≡ rank → ⊥) → k < rank
          less k below other = omega (arith, below, other)

      before_pivot : (j i : ℕ) → i < rank + 1 → j < pivot_next i → B i j ≡ 0
      before_pivot j =
          each_row (λ i. j < pivot_next i → B i j ≡ 0)
          (λ i below before. earlier i below before)
          (λ before. stays rank j rank_within (subst (λ (n : ℕ). j < n) adds before)
          ∙ so_far.zero_rows rank j (omega arith) rank_within (subst (λ (n : ℕ). j < n) adds before))
        where
          earlier : (i : ℕ) → i < rank → j < pivot_next i → B i j ≡ 0
          earlier i below before =
              let is = keeps i below in
              let fits = so_far.pivots_fit i below in
              stays i j (inside_before i below) (omega (arith, before, is, fits))
              ∙ so_far.zeros_before i j below (omega (arith, before, is))

-- the same with the column noted in a list: that of a row which is the first from row `rank` on that is not 0 there
pub echelon_noted : (rows columns column rank row : ℕ) (pivots : List ℕ) (A B : ℕ → ℕ → ℕ) → (rank ≤ row) × (row < rows)
    → length pivots ≡ rows → column < columns → B rank column ≡ 1 → ((i : ℕ) → i < rows → i ≢ rank → B i column ≡ 0)
    → ((i j : ℕ) → i < rows → j < columns → A rank j ≡ 0 → A row j ≡ 0 → B i j ≡ A i j)
    → IsReducedEchelon rows column rank (slice_index pivots) A
    → IsReducedEchelon rows (column + 1) (rank + 1) (slice_index (set pivots rank column)) B
echelon_noted rows columns column rank row pivots A B found room inside leads clears stays so_far =
    let rank_within : rank < rows = omega (arith, found.0, found.1) in
    echelon_more rows column rank (slice_index pivots) (slice_index (set pivots rank column)) A B rank_within
    (λ i below. get_or-set_other pivots rank i column 0 (λ e. absurd (omega (arith, e, below))))
    (get_or-set_same pivots rank column 0 (omega (arith, rank_within, room))) leads clears
    (λ i j within before. stays i j within (omega (arith, before, inside))
    (so_far.zero_rows rank j (omega arith) rank_within before) (so_far.zero_rows row j found.0 found.1 before)) so_far

-- ---- the rows of a list, some columns at a time

module _ {V : Type 0} {read : List V → ℕ → ℕ → ℕ} {width : ℕ} {times : ℕ → ℕ → ℕ} (ring : IsRing width 1 times) {rows columns : ℕ} where
  -- at first no column is reduced
  pub reduced_none : {old : List V} {was : List ℕ} → AreRowsReduced read times rows columns 0 0 old old was was
  reduced_none {old} {was} =
      record {
        shape = refl;
        room = refl;
        reduced = echelon_start rows (slice_index was) (read old);
        rest = λ i past. refl;
        space = space_same width times ring rows columns (read old);
      }

  module _ {column rank : ℕ} {old now : List V} {was pivots : List ℕ}
      (so_far : AreRowsReduced read times rows columns column rank old now was pivots) where
    -- and then more
    pub reduced_then : {count found : ℕ} {next : List V} {places : List ℕ} → rank ≤ found
        → AreRowsReduced read times rows columns count found now next pivots places
        → AreRowsReduced read times rows columns count found old next was places
    reduced_then {next = next} grows step =
        record {
          shape = step.shape ∙ so_far.shape;
          room = step.room ∙ so_far.room;
          reduced = step.reduced;
          rest = λ i past. step.rest i past ∙ so_far.rest i (omega (arith, grows, past));
          space = space_then width times ring rows columns (read old) (read now) (read next) so_far.space step.space;
        }

    -- until there are no more, or each row has a pivot
    pub reduced_all : (count : ℕ) → (column ≡ count) ⊎ ((rank ≡ rows) × (column ≤ count))
        → AreRowsReduced read times rows columns count rank old now was pivots
    reduced_all count (inl all) =
        subst (λ (n : ℕ). AreRowsReduced read times rows columns n rank old now was pivots) all so_far
    reduced_all count (inr full) =
        record {
          shape = so_far.shape;
          room = so_far.room;
          reduced = echelon_full rows column count rank (slice_index pivots) (read now) full.0 full.1 so_far.reduced;
          rest = so_far.rest;
          space = so_far.space;
        }
