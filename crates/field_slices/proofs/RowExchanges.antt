-- Rows that are exchanged, entry by entry.
use Rattle.std.proofs.Common.{◌≡◌, ◌≢◌, inl, inr, ℕ, ◌+◌, ◌<◌, ◌≤◌, Bool, List, length, refl, sym, subst, ◌∙◌, ap, arith}
use Rattle.std.specs.Prelude.{◌==◌, if◌then◌else◌, slice_index}
use Rattle.std.specs.List.{SwappedAt}
use Rattle.std.proofs.lemmas.Bool.{cases_eq, cases_lt, eq-eqb, ne_eqb, lt-ltb, le-ltb}
use Rattle.field_slices.specs.Decompositions.{exchanged, exchanged_entry}
use Rattle.field_slices.specs.Matrices.{IsEntryWritten}

-- ---- two numbers

module _ (first second i : ℕ) where
  pub exchanged-first : i ≡ first → exchanged first second i ≡ second
  exchanged-first same = ap (λ (b : Bool). if b then second else if i == second then first else i) (eq-eqb i first same)

  exchanged-rest : i ≢ first → exchanged first second i ≡ (if i == second then first else i)
  exchanged-rest other = ap (λ (b : Bool). if b then second else if i == second then first else i) (ne_eqb i first other)

  exchanged-second : i ≢ first → i ≡ second → exchanged first second i ≡ first
  exchanged-second other same = exchanged-rest other ∙ ap (λ (b : Bool). if b then first else i) (eq-eqb i second same)

  exchanged-other : i ≢ first → i ≢ second → exchanged first second i ≡ i
  exchanged-other other apart = exchanged-rest other ∙ ap (λ (b : Bool). if b then first else i) (ne_eqb i second apart)

  -- what holds of both numbers and of a further one holds of what it becomes
  pub exchanged-keeps : (P : ℕ → Type 0) → P first → P second → P i → P (exchanged first second i)
  exchanged-keeps P of_first of_second of_own =
      elim (cases_eq i first) [
        | inl same ↦ subst P (sym (exchanged-first same)) of_second
        | inr other ↦ elim (cases_eq i second) [
          | inl same ↦ subst P (sym (exchanged-second other same)) of_first
          | inr apart ↦ subst P (sym (exchanged-other other apart)) of_own
        ]
      ]

  -- the second number becomes the first, also where both are one
  exchanged-back : i ≡ second → exchanged first second i ≡ first
  exchanged-back same =
      elim (cases_eq i first) [
        | inl own ↦ exchanged-first own ∙ sym same ∙ own
        | inr other ↦ exchanged-second other same
      ]

  pub exchanged-before : i < first → first ≤ second → exchanged first second i ≡ i
  exchanged-before before order = exchanged-other (λ e. absurd (omega (arith, e, before))) (λ e. absurd (omega (arith, e, before, order)))

  -- what a list has after an exchange of two places
  pub exchanged-placed : (xs ys : List ℕ) → SwappedAt xs ys first second → slice_index ys i ≡ slice_index xs (exchanged first second i)
  exchanged-placed xs ys swapped =
      elim (cases_eq i first) [
        | inl same ↦ ap (slice_index ys) same ∙ swapped.0 0 ∙ ap (slice_index xs) (sym (exchanged-first same))
        | inr other ↦ elim (cases_eq i second) [
          | inl same ↦ ap (slice_index ys) same ∙ swapped.1 0 ∙ ap (slice_index xs) (sym (exchanged-second other same))
          | inr apart ↦ swapped.2 i 0 other apart ∙ ap (slice_index xs) (sym (exchanged-other other apart))
        ]
      ]

-- ---- a matrix

module _ (first second count : ℕ) (A : ℕ → ℕ → ℕ) (i j : ℕ) where
  pub exchanged-taken : j < count → exchanged_entry first second count A i j ≡ A (exchanged first second i) j
  exchanged-taken before = ap (λ (b : Bool). if b then A (exchanged first second i) j else A i j) (lt-ltb j count before)

  pub exchanged-kept : count ≤ j → exchanged_entry first second count A i j ≡ A i j
  exchanged-kept past = ap (λ (b : Bool). if b then A (exchanged first second i) j else A i j) (le-ltb j count past)

-- in another column nothing changes when one column more is exchanged
exchanged-more : (first second column : ℕ) (A : ℕ → ℕ → ℕ) (i j : ℕ) → j ≢ column
    → exchanged_entry first second column A i j ≡ exchanged_entry first second (column + 1) A i j
exchanged-more first second column A i j other =
    elim (cases_lt j column) [
      | inl before ↦ exchanged-taken first second column A i j before ∙ sym (exchanged-taken first second (column + 1) A i j (omega (arith, before)))
      | inr past ↦ exchanged-kept first second column A i j past
          ∙ sym (exchanged-kept first second (column + 1) A i j (omega (arith, past, other)))
    ]

-- the entries before this column are exchanged
pub record RowsExchanged {V : Type 0} (read : List V → ℕ → ℕ → ℕ) (columns first second : ℕ) (old now : List V) (column : ℕ) : Type 0 where
  pub shape : length now ≡ length old
  pub entries : (i j : ℕ) → j < columns → read now i j
      ≡ exchanged_entry first second column (read old) i j

pub exchange_start : {V : Type 0} {read : List V → ℕ → ℕ → ℕ} {columns first second : ℕ} {old : List V} → RowsExchanged read columns first second old old 0
exchange_start {read = read} {first = first} {second = second} {old = old} = record {
  shape = refl;
  entries = λ i j inside. sym (exchanged-kept first second 0 (read old) i j (omega arith));
}

module _ {V : Type 0} {read : List V → ℕ → ℕ → ℕ} {columns first second : ℕ} {old now : List V} {column : ℕ}
    (so_far : RowsExchanged read columns first second old now column) where
  pub exchange_step : {middle next : List V} {x y : ℕ} → column < columns → x ≡ read now first column
      → y ≡ read now second column → IsEntryWritten read columns first column y now middle
      → IsEntryWritten read columns second column x middle next → RowsExchanged read columns first second old next (column + 1)
  exchange_step {middle} {next} within is_first is_second write then_write = record {
    shape = then_write.shape ∙ write.shape ∙ so_far.shape;
    entries = λ i j inside.
        elim (cases_eq j column) [
          | inl same ↦ ap (read next i) same ∙ own i
              ∙ ap (exchanged_entry first second (column + 1) (read old) i) (sym same)
          | inr other ↦ then_write.others i j inside (inr other) ∙ write.others i j inside (inr other) ∙ so_far.entries i j inside
              ∙ exchanged-more first second column (read old) i j other
        ];
  }
    where
      had : (i : ℕ) → read now i column ≡ read old i column
      had i = so_far.entries i column within ∙ exchanged-kept first second column (read old) i column (omega arith)

      wanted : (i p : ℕ) → exchanged first second i ≡ p
          → read old p column ≡ exchanged_entry first second (column + 1) (read old) i column
      wanted i p is =
          ap (λ (r : ℕ). read old r column) (sym is)
          ∙ sym (exchanged-taken first second (column + 1) (read old) i column (omega arith))

      own : (i : ℕ) → read next i column
          ≡ exchanged_entry first second (column + 1) (read old) i column
      own i =
          elim (cases_eq i second) [
            | inl same ↦ ap (λ (r : ℕ). read next r column) same ∙ then_write.written ∙ is_first ∙ had first
                ∙ wanted i first (exchanged-back first second i same)
            | inr apart ↦ then_write.others i column within (inl apart) ∙ elim (cases_eq i first) [
              | inl same ↦ ap (λ (r : ℕ). read middle r column) same ∙ write.written ∙ is_second ∙ had second
                  ∙ wanted i second (exchanged-first first second i same)
              | inr other ↦ write.others i column within (inl other) ∙ had i ∙ wanted i i (exchanged-other first second i other apart)
            ]
          ]
