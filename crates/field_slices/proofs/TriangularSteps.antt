-- A column more of a decomposition into triangular matrices: an exchange of two rows, and multiples of a row added to those below it.
use Rattle.std.proofs.Common.{◌≡◌, ◌≢◌, ◌⊎◌, inl, inr, ℕ, suc, ◌+◌, ◌^◌, ◌<◌, ◌≤◌, min, Bool, List, length, refl, sym, subst, ◌∙◌, ap, ap₂, arith}
use Rattle.std.specs.Prelude.{bit_xor, if◌then◌else◌, nat_lt}
use Rattle.std.proofs.lemmas.Bool.{cases_eq, cases_lt, lt-ltb, le-ltb}
use lib.Bits.{xor_self, xor_zero_r, xor_zero_l}
use Rattle.field_base.specs.Basis.{sum_below}
use Rattle.field_base.specs.Ring.{IsRing}
use Rattle.field_base.proofs.BasisSums.{sum_below-same}
use Rattle.field_base.proofs.PowerLemmas.{one-times}
use Rattle.field_base.proofs.RingLemmas.{times-zero, zero-times}
use Rattle.field_slices.specs.Decompositions.{IsDecomposition, exchanged, exchanged_entry}
use Rattle.field_slices.specs.Matrices.{IsEntryWritten, identity_entry}
use Rattle.field_slices.proofs.MatrixRows.{mixed, mixed-before, mixed-past}
use Rattle.field_slices.proofs.RowExchanges.{exchanged-before, exchanged-keeps, exchanged-kept, exchanged-taken}
use Rattle.field_slices.proofs.RowSpaces.{identity-only, only, only-after, only-other, only-same, sum_of_sums}

-- ---- sums

-- a row of the identity matrix
identity-row : (i k : ℕ) → identity_entry i k ≡ only i 1 k
identity-row i k =
    elim (cases_eq k i) [
      | inl same ↦ identity-only i k ∙ only-same k 1 i (sym same) ∙ sym (only-same i 1 k same)
      | inr other ↦ identity-only i k ∙ only-other k 1 i (λ e. other (sym e)) ∙ sym (only-other i 1 k other)
    ]

module _ {width : ℕ} {times : ℕ → ℕ → ℕ} (ring : IsRing width 1 times) (column rows : ℕ) where
  -- term k of the product of a row and a column, and 0 from place `column` on
  front : (ℕ → ℕ) → (ℕ → ℕ) → ℕ → ℕ
  front c F k = if nat_lt k column then times (c k) (F k) else 0

  front-before : (c F : ℕ → ℕ) (k : ℕ) → k < column → front c F k ≡ times (c k) (F k)
  unfolding front
  front-before c F k before = ap (λ (b : Bool). if b then times (c k) (F k) else 0) (lt-ltb k column before)

  front-past : (c F : ℕ → ℕ) (k : ℕ) → column ≤ k → front c F k ≡ 0
  unfolding front
  front-past c F k past = ap (λ (b : Bool). if b then times (c k) (F k) else 0) (le-ltb k column past)

  -- a row that from place `column` on is row i of the identity matrix, times a column
  module _ (c F : ℕ → ℕ) (i : ℕ) (rest : (k : ℕ) → column ≤ k → k < rows → c k ≡ identity_entry i k) where
    split-past : column ≤ i → i < rows
        → sum_below (λ k. times (c k) (F k)) rows ≡ bit_xor (sum_below (front c F) rows) (times 1 (F i))
    split-past past inside =
        sum_below-same (λ k. times (c k) (F k)) (λ k. bit_xor (front c F k) (times (only i 1 k) (F k))) rows
        (λ k within. term k within (cases_lt k column))
        ∙ sum_of_sums (front c F) (λ k. times (only i 1 k) (F k)) rows
        ∙ ap (bit_xor (sum_below (front c F) rows)) (only-after width times ring i 1 F rows inside)
      where
        term : (k : ℕ) → k < rows → (k < column) ⊎ (column ≤ k) → times (c k) (F k) ≡ bit_xor (front c F k) (times (only i 1 k) (F k))
        term k within (inl before) =
            sym (ap₂ bit_xor (front-before c F k before)
            (ap (λ (x : ℕ). times x (F k)) (only-other i 1 k (λ e. absurd (omega (arith, e, before, past))))
            ∙ zero-times width 1 times ring (F k))
            ∙ xor_zero_r (times (c k) (F k)))
        term k within (inr behind) =
            ap (λ (x : ℕ). times x (F k)) (rest k behind within ∙ identity-row i k)
            ∙ sym (xor_zero_l (times (only i 1 k) (F k)))
            ∙ ap (λ (x : ℕ). bit_xor x (times (only i 1 k) (F k))) (sym (front-past c F k behind))

    split-before : i < column → sum_below (λ k. times (c k) (F k)) rows ≡ sum_below (front c F) rows
    split-before before =
        sum_below-same (λ k. times (c k) (F k)) (front c F) rows (λ k within. term k within (cases_lt k column))
      where
        term : (k : ℕ) → k < rows → (k < column) ⊎ (column ≤ k) → times (c k) (F k) ≡ front c F k
        term k within (inl earlier) = sym (front-before c F k earlier)
        term k within (inr behind) =
            ap (λ (x : ℕ). times x (F k))
            (rest k behind within ∙ identity-row i k ∙ only-other i 1 k (λ e. absurd (omega (arith, e, before, behind))))
            ∙ zero-times width 1 times ring (F k) ∙ sym (front-past c F k behind)

-- ---- a decomposition, and two rows exchanged

-- columns past as many as there are rows have no entry below the diagonal
pub decomposition-whole : {times : ℕ → ℕ → ℕ} {rows columns n : ℕ} {A : ℕ → ℕ → ℕ} {place : ℕ → ℕ} {L U : ℕ → ℕ → ℕ} → n ≡ min columns rows
    → IsDecomposition times rows columns n A place L U → IsDecomposition times rows columns columns A place L U
decomposition-whole is so_far = record {
  lower = so_far.lower;
  rest = λ i j inside past within. so_far.rest i j inside (omega (arith, is, past)) within;
  upper = λ i j order inside within. so_far.upper i j order inside (omega (arith, is, order, inside, within));
  product = so_far.product;
}

module _ {width : ℕ} {times : ℕ → ℕ → ℕ} (ring : IsRing width 1 times) {rows columns : ℕ} where
  -- at first nothing is exchanged, and L is the identity matrix
  pub decomposition-start : {A L : ℕ → ℕ → ℕ} {place : ℕ → ℕ} → ((i j : ℕ) → A i j < 2 ^ width) → ((i : ℕ) → i < rows → place i ≡ i)
      → ((i j : ℕ) → i < rows → j < rows → L i j ≡ identity_entry i j) → IsDecomposition times rows columns 0 A place L A
  decomposition-start {A} {L} {place} fits stays identity =
      record {
        lower = λ i j order inside. identity i j (omega (arith, order, inside)) inside;
        rest = λ i j inside past below. identity i j inside below;
        upper = λ i j order inside before. absurd (omega (arith, before));
        product = λ i j inside below.
            ap (λ (k : ℕ). A k j) (stays i inside)
            ∙ sym (sum_below-same (λ k. times (L i k) (A k j)) (λ k. times (only i 1 k) (A k j)) rows
            (λ k within. ap (λ (x : ℕ). times x (A k j)) (identity i k inside within ∙ identity-row i k))
            ∙ only-after width times ring i 1 (λ k. A k j) rows inside ∙ one-times width 1 times ring (A i j) (fits i j));
      }

  module _ {column : ℕ} {A : ℕ → ℕ → ℕ} {place : ℕ → ℕ} {L U : ℕ → ℕ → ℕ}
      (so_far : IsDecomposition times rows columns column A place L U) where
    -- two rows from row `column` on exchange what they have in U, and in the columns of L before `column`
    module _ {row : ℕ} (order : column ≤ row) (row_inside : row < rows) (column_inside : column < columns) {place' : ℕ → ℕ}
        {L' U' : ℕ → ℕ → ℕ} (placed : (i : ℕ) → place' i ≡ place (exchanged column row i))
        (lowered : (i j : ℕ) → j < rows → L' i j ≡ exchanged_entry column row column L i j)
        (uppered : (i j : ℕ) → j < columns → U' i j ≡ exchanged_entry column row columns U i j) where
      moved : ℕ → ℕ
      moved = exchanged column row

      moved-inside : (i : ℕ) → i < rows → moved i < rows
      unfolding moved
      moved-inside i inside = exchanged-keeps column row i (λ k. k < rows) (omega (arith, order, row_inside)) row_inside inside

      moved-past : (i : ℕ) → column ≤ i → column ≤ moved i
      unfolding moved
      moved-past i past = exchanged-keeps column row i (λ k. column ≤ k) (omega arith) order past

      moved-before : (i : ℕ) → i < column → moved i ≡ i
      unfolding moved
      moved-before i before = exchanged-before column row i before order

      upper-moved : (i j : ℕ) → j < columns → U' i j ≡ U (moved i) j
      unfolding moved
      upper-moved i j below = uppered i j below ∙ exchanged-taken column row columns U i j below

      lower-moved : (i j : ℕ) → j < rows → j < column → L' i j ≡ L (moved i) j
      unfolding moved
      lower-moved i j below before = lowered i j below ∙ exchanged-taken column row column L i j before

      lower-stays : (i j : ℕ) → j < rows → column ≤ j → L' i j ≡ L i j
      lower-stays i j below past = lowered i j below ∙ exchanged-kept column row column L i j past

      -- the front terms of a row of the product are those of the row that it was
      fronts : (i j : ℕ) → j < columns → sum_below (front ring column rows (L (moved i)) (λ k. U k j)) rows
          ≡ sum_below (front ring column rows (L' i) (λ k. U' k j)) rows
      fronts i j below =
          sum_below-same (front ring column rows (L (moved i)) (λ k. U k j))
          (front ring column rows (L' i) (λ k. U' k j)) rows (λ k within. term k within (cases_lt k column))
        where
          term : (k : ℕ) → k < rows → (k < column) ⊎ (column ≤ k) → front ring column rows (L (moved i)) (λ k. U k j) k
              ≡ front ring column rows (L' i) (λ k. U' k j) k
          term k within (inl before) =
              front-before ring column rows (L (moved i)) (λ k. U k j) k before
              ∙ ap₂ times (sym (lower-moved i k within before))
              (ap (λ (r : ℕ). U r j) (sym (moved-before k before)) ∙ sym (upper-moved k j below))
              ∙ sym (front-before ring column rows (L' i) (λ k. U' k j) k before)
          term k within (inr past) =
              front-past ring column rows (L (moved i)) (λ k. U k j) k past
              ∙ sym (front-past ring column rows (L' i) (λ k. U' k j) k past)

      exchanged-product : (i j : ℕ) → i < rows → j < columns → A (place' i) j ≡ sum_below (λ k. times (L' i k) (U' k j)) rows
      unfolding moved
      exchanged-product i j inside below =
          ap (λ (r : ℕ). A r j) (placed i) ∙ so_far.product (moved i) j (moved-inside i inside) below ∙ rows_agree (cases_lt i column)
        where
          rest_before : (k : ℕ) → column ≤ k → k < rows → L (moved i) k ≡ identity_entry (moved i) k
          rest_before k past within = so_far.rest (moved i) k (moved-inside i inside) past within

          rest_after : (k : ℕ) → column ≤ k → k < rows → L' i k ≡ identity_entry i k
          rest_after k past within = lower-stays i k within past ∙ so_far.rest i k inside past within

          rows_agree : (i < column) ⊎ (column ≤ i)
              → sum_below (λ k. times (L (moved i) k) (U k j)) rows ≡ sum_below (λ k. times (L' i k) (U' k j)) rows
          rows_agree (inl before) =
              split-before ring column rows (L (moved i)) (λ k. U k j) (moved i) rest_before
              (subst (λ (k : ℕ). k < column) (sym (moved-before i before)) before)
              ∙ fronts i j below ∙ sym (split-before ring column rows (L' i) (λ k. U' k j) i rest_after before)
          rows_agree (inr past) =
              split-past ring column rows (L (moved i)) (λ k. U k j) (moved i) rest_before (moved-past i past)
              (moved-inside i inside)
              ∙ ap₂ bit_xor (fronts i j below) (ap (times 1) (sym (upper-moved i j below)))
              ∙ sym (split-past ring column rows (L' i) (λ k. U' k j) i rest_after past inside)

      pub decomposition-exchanged : IsDecomposition times rows columns column A place' L' U'
      unfolding moved
      decomposition-exchanged =
          record {
            lower = λ i j rising inside.
                elim (cases_lt j column) [
                  | inl before ↦ lower-moved i j inside before
                      ∙ ap (λ (k : ℕ). L k j) (moved-before i (omega (arith, rising, before))) ∙ so_far.lower i j rising inside
                  | inr past ↦ lower-stays i j inside past ∙ so_far.lower i j rising inside
                ];
            rest = λ i j inside past below. lower-stays i j below past ∙ so_far.rest i j inside past below;
            upper = λ i j falling inside before.
                upper-moved i j (omega (arith, before, column_inside))
                ∙ so_far.upper (moved i) j
                (elim (cases_lt i column) [
                  | inl earlier ↦ subst (λ (k : ℕ). j < k) (sym (moved-before i earlier)) falling
                  | inr past ↦ let far = moved-past i past in omega (arith, far, before)
                ])
                (moved-inside i inside) before;
            product = exchanged-product;
          }

    -- ---- multiples of a row added to those below it

    -- row `column` of U times what L' has in that column is added to each row below it, and these are then 0 there
    module _ {L' U' : ℕ → ℕ → ℕ} (column_inside : column < columns)
        (factors : (i : ℕ) → column < i → i < rows → times (L' i column) (U column column) ≡ U i column)
        (kept : (i j : ℕ) → j < rows → (i ≤ column) ⊎ (j ≢ column) → L' i j ≡ L i j)
        (cleared : (i j : ℕ) → column < i → i < rows → j < columns → U' i j ≡ bit_xor (U i j) (times (L' i column) (U column j)))
        (stays : (i j : ℕ) → i ≤ column → j < columns → U' i j ≡ U i j) where
      cleared-lower : (i j : ℕ) → i ≤ j → j < rows → L' i j ≡ identity_entry i j
      cleared-lower i j rising inside =
          elim (cases_lt column i) [
            | inl below ↦ kept i j inside (inr (λ e. absurd (omega (arith, e, rising, below)))) ∙ so_far.lower i j rising inside
            | inr above ↦ kept i j inside (inl above) ∙ so_far.lower i j rising inside
          ]

      cleared-rest : (i j : ℕ) → i < rows → column + 1 ≤ j → j < rows → L' i j ≡ identity_entry i j
      cleared-rest i j inside past below =
          kept i j below (inr (λ e. absurd (omega (arith, e, past)))) ∙ so_far.rest i j inside (omega (arith, past)) below

      cleared-upper : (i j : ℕ) → j < i → i < rows → j < column + 1 → U' i j ≡ 0
      cleared-upper i j falling inside before =
          elim (cases_lt column i) [
            | inl below ↦ cleared i j below inside (omega (arith, before, column_inside)) ∙ elim (cases_eq j column) [
              | inl same ↦ ap (λ (k : ℕ). bit_xor (U i k) (times (L' i column) (U column k))) same
                  ∙ ap (bit_xor (U i column)) (factors i below inside) ∙ xor_self (U i column)
              | inr other ↦ ap₂ bit_xor (so_far.upper i j falling inside (omega (arith, other, before)))
                  (ap (times (L' i column))
                  (so_far.upper column j (omega (arith, other, before)) (omega (arith, below, inside)) (omega (arith, other, before)))
                  ∙ times-zero width 1 times ring (L' i column))
                  ∙ xor_self 0
            ]
            | inr above ↦ stays i j above (omega (arith, before, column_inside))
                ∙ so_far.upper i j falling inside (omega (arith, falling, above))
          ]

      -- in the rows down to row `column` each term of the product stays
      terms-stay : (i j : ℕ) → i ≤ column → j < columns → (k : ℕ) → k < rows → times (L i k) (U k j) ≡ times (L' i k) (U' k j)
      terms-stay i j above below k within =
          elim (cases_lt column k) [
            | inl after ↦ ap (λ (x : ℕ). times x (U k j)) (nothing after) ∙ zero-times width 1 times ring (U k j)
                ∙ sym (ap (λ (x : ℕ). times x (U' k j)) (kept i k within (inl above) ∙ nothing after) ∙ zero-times width 1 times ring (U' k j))
            | inr before ↦ ap₂ times (sym (kept i k within (inl above))) (sym (stays k j before below))
          ]
        where
          nothing : column < k → L i k ≡ 0
          nothing after =
              so_far.lower i k (omega (arith, above, after)) within ∙ identity-row i k
              ∙ only-other i 1 k (λ e. absurd (omega (arith, e, above, after)))

      -- in a row below it the terms at places `column` and i are changed by the same
      module _ (i j : ℕ) (below : column < i) (inside : i < rows) (j_inside : j < columns) where
        factor : ℕ
        factor = L' i column

        added : ℕ → ℕ
        added k = bit_xor (times (only column factor k) (U column j)) (times (only i factor k) (U column j))

        no-term : (k p : ℕ) → k ≢ p → times (only p factor k) (U column j) ≡ 0
        no-term k p other =
            ap (λ (x : ℕ). times x (U column j)) (only-other p factor k other) ∙ zero-times width 1 times ring (U column j)

        own-term : (k p : ℕ) → k ≡ p → times (only p factor k) (U column j) ≡ times factor (U column j)
        own-term k p same = ap (λ (x : ℕ). times x (U column j)) (only-same p factor k same)

        at_column : (k : ℕ) → k < rows → k ≡ column → times (L' i k) (U' k j) ≡ bit_xor (times (L i k) (U k j)) (added k)
        unfolding added factor
        at_column k within same =
            ap₂ times (ap (L' i) same) (ap (λ (r : ℕ). U' r j) same ∙ stays column j (omega arith) j_inside)
            ∙ sym (xor_zero_l (times factor (U column j)))
            ∙ sym (ap₂ bit_xor
            (ap (λ (x : ℕ). times x (U k j))
            (so_far.rest i k inside (omega (arith, same)) within ∙ identity-row i k
            ∙ only-other i 1 k (λ e. absurd (omega (arith, e, same, below))))
            ∙ zero-times width 1 times ring (U k j))
            (ap₂ bit_xor (own-term k column same) (no-term k i (λ e. absurd (omega (arith, e, same, below))))
            ∙ xor_zero_r (times factor (U column j))))

        at_row : (k : ℕ) → k < rows → k ≡ i → times (L' i k) (U' k j) ≡ bit_xor (times (L i k) (U k j)) (added k)
        unfolding added factor
        at_row k within same =
            let not_column : k ≢ column = λ e. absurd (omega (arith, e, same, below)) in
            let one : L i k ≡ 1 = so_far.lower i k (omega (arith, same)) within ∙ identity-row i k ∙ only-same i 1 k same in
            ap₂ times (kept i k within (inr not_column) ∙ one)
            (cleared k j (omega (arith, same, below)) within j_inside
            ∙ ap (λ (r : ℕ). bit_xor (U k j) (times (L' r column) (U column j))) same)
            ∙ ring.over_sum 1 (U k j) (times factor (U column j))
            ∙ ap₂ bit_xor (ap (λ (x : ℕ). times x (U k j)) (sym one))
            (one-times width 1 times ring (times factor (U column j)) (ring.below factor (U column j))
            ∙ sym (ap₂ bit_xor (no-term k column not_column) (own-term k i same) ∙ xor_zero_l (times factor (U column j))))

        elsewhere : (k : ℕ) → k < rows → k ≢ column → k ≢ i → times (L' i k) (U' k j) ≡ bit_xor (times (L i k) (U k j)) (added k)
        unfolding added
        elsewhere k within apart other =
            ap (λ (x : ℕ). times x (U' k j)) (kept i k within (inr apart)) ∙ same (cases_lt column k)
            ∙ sym (ap (bit_xor (times (L i k) (U k j)))
            (ap₂ bit_xor (no-term k column apart) (no-term k i other) ∙ xor_self 0) ∙ xor_zero_r (times (L i k) (U k j)))
          where
            nothing : column < k → L i k ≡ 0
            nothing after = so_far.rest i k inside (omega (arith, after)) within ∙ identity-row i k ∙ only-other i 1 k other

            same : (column < k) ⊎ (k ≤ column) → times (L i k) (U' k j) ≡ times (L i k) (U k j)
            same (inl after) =
                ap (λ (x : ℕ). times x (U' k j)) (nothing after) ∙ zero-times width 1 times ring (U' k j)
                ∙ sym (ap (λ (x : ℕ). times x (U k j)) (nothing after) ∙ zero-times width 1 times ring (U k j))
            same (inr before) = ap (times (L i k)) (stays k j before j_inside)

        term : (k : ℕ) → k < rows → times (L' i k) (U' k j) ≡ bit_xor (times (L i k) (U k j)) (added k)
        term k within =
            elim (cases_eq k column) [
              | inl same ↦ at_column k within same
              | inr apart ↦ elim (cases_eq k i) [
                | inl same ↦ at_row k within same
                | inr other ↦ elsewhere k within apart other
              ]
            ]

        added-cancel : sum_below added rows ≡ 0
        unfolding added
        added-cancel =
            sum_of_sums (λ k. times (only column factor k) (U column j)) (λ k. times (only i factor k) (U column j)) rows
            ∙ ap₂ bit_xor (only-after width times ring column factor (λ _. U column j) rows (omega (arith, below, inside)))
            (only-after width times ring i factor (λ _. U column j) rows inside)
            ∙ xor_self (times factor (U column j))

        row-stays : sum_below (λ k. times (L i k) (U k j)) rows ≡ sum_below (λ k. times (L' i k) (U' k j)) rows
        row-stays =
            sym (sum_below-same (λ k. times (L' i k) (U' k j)) (λ k. bit_xor (times (L i k) (U k j)) (added k)) rows term
            ∙ sum_of_sums (λ k. times (L i k) (U k j)) added rows
            ∙ ap (bit_xor (sum_below (λ k. times (L i k) (U k j)) rows)) added-cancel
            ∙ xor_zero_r (sum_below (λ k. times (L i k) (U k j)) rows))

      pub decomposition-cleared : IsDecomposition times rows columns (column + 1) A place L' U'
      decomposition-cleared =
          record {
            lower = cleared-lower;
            rest = cleared-rest;
            upper = cleared-upper;
            product = λ i j inside below.
                so_far.product i j inside below ∙ elim (cases_lt column i) [
                  | inl after ↦ row-stays i j after inside below
                  | inr above ↦ sum_below-same (λ k. times (L i k) (U k j)) (λ k. times (L' i k) (U' k j)) rows (terms-stay i j above below)
                ];
          }

-- ---- the rows below a pivot, one after the other

-- a number times an inverse, times what that inverts
pub quotient_times : {width : ℕ} {times : ℕ → ℕ → ℕ} → IsRing width 1 times → {pivot inverse value : ℕ} → value < 2 ^ width
    → times pivot inverse ≡ 1 → times (times inverse value) pivot ≡ value
quotient_times {width} {times} ring {pivot} {inverse} {value} fits inverts =
    ring.comm (times inverse value) pivot ∙ sym (ring.assoc pivot inverse value) ∙ ap (λ (x : ℕ). times x value) inverts
    ∙ one-times width 1 times ring value fits

-- the rows before row n have what row `column` of U is multiplied by in this column, and what stands elsewhere stays
pub record FactorsWritten {V : Type 0} (read : List V → ℕ → ℕ → ℕ) (times : ℕ → ℕ → ℕ) (rows column : ℕ) (U : ℕ → ℕ → ℕ) (old now : List V) (n : ℕ)
    : Type 0 where
  pub shape : length now ≡ length old
  pub done : (i : ℕ) → column < i → i < n → times (read now i column) (U column column) ≡ U i column
  pub stays : (i j : ℕ) → j < rows → (i ≤ column) ⊎ (j ≢ column) → read now i j ≡ read old i j

pub factors_start : {V : Type 0} {read : List V → ℕ → ℕ → ℕ} {times : ℕ → ℕ → ℕ} {rows column : ℕ} {U : ℕ → ℕ → ℕ} {old : List V}
    → FactorsWritten read times rows column U old old (column + 1)
factors_start = record {
  shape = refl;
  done = λ i below before. absurd (omega (arith, below, before));
  stays = λ i j inside elsewhere. refl;
}

module _ {V : Type 0} {read : List V → ℕ → ℕ → ℕ} {times : ℕ → ℕ → ℕ} {rows column : ℕ} {U : ℕ → ℕ → ℕ} {old now : List V} {n : ℕ}
    (so_far : FactorsWritten read times rows column U old now n) where
  pub factors_step : {next : List V} {value : ℕ} → column < n → n < rows → times value (U column column) ≡ U n column
      → IsEntryWritten read rows n column value now next → FactorsWritten read times rows column U old next (n + 1)
  factors_step {next} past within is write = record {
    shape = write.shape ∙ so_far.shape;
    done = λ i below before.
        elim (cases_eq i n) [
          | inl same ↦ ap (λ (r : ℕ). times (read next r column) (U column column)) same
              ∙ ap (λ (x : ℕ). times x (U column column)) write.written ∙ is ∙ ap (λ (r : ℕ). U r column) (sym same)
          | inr other ↦ ap (λ (x : ℕ). times x (U column column)) (write.others i column (omega (arith, past, within)) (inl other))
              ∙ so_far.done i below (omega (arith, before, other))
        ];
    stays = λ i j inside elsewhere. write.others i j inside (apart i j elsewhere) ∙ so_far.stays i j inside elsewhere;
  }
    where
      apart : (i j : ℕ) → (i ≤ column) ⊎ (j ≢ column) → (i ≢ n) ⊎ (j ≢ column)
      apart i j (inl above) = inl (λ e. absurd (omega (arith, e, above, past)))
      apart i j (inr other) = inr other

-- U after row `column` times what L has in that column was added to each row below it
abbrev pub cleared_below : (ℕ → ℕ → ℕ) → ℕ → (ℕ → ℕ → ℕ) → (ℕ → ℕ → ℕ) → ℕ → ℕ → ℕ
cleared_below times column L U = mixed (suc column) U (λ i j. bit_xor (U i j) (times (L i column) (U column j)))

module _ (times : ℕ → ℕ → ℕ) (column : ℕ) (L U : ℕ → ℕ → ℕ) (i j : ℕ) where
  pub cleared_below-above : i ≤ column → cleared_below times column L U i j ≡ U i j
  cleared_below-above above =
      ap (λ (w : ℕ → ℕ). w j)
      (mixed-before (suc column) U (λ i j. bit_xor (U i j) (times (L i column) (U column j))) i (omega (arith, above)))

  pub cleared_below-row : column < i → cleared_below times column L U i j ≡ bit_xor (U i j) (times (L i column) (U column j))
  cleared_below-row below =
      ap (λ (w : ℕ → ℕ). w j) (mixed-past (suc column) U (λ i j. bit_xor (U i j) (times (L i column) (U column j))) i (omega (arith, below)))
