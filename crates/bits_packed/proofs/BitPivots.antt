-- A pivot over GF(2): a row that is added where it is needed, and a column that is cleared, where sums are still to be added to the rows.
use Rattle.std.proofs.Common.{◌≡◌, ◌≢◌, ◌⊎◌, inl, inr, ℕ, ◌+◌, ◌*◌, ◌/◌, ◌%◌, ◌<◌, ◌≤◌, List, length, refl, sym, subst, ◌∙◌, ap, ap₂, arith, lit<, get_or-set_other, get_or-set_same}
use Rattle.std.specs.Prelude.{bit_xor, slice_index, slice_set}
use Rattle.std.proofs.lemmas.Bool.{cases_eq}
use native.Mathlib.Nat.{zero-mul}
use lib.Bits.{xor_self, xor_zero_r}
use Rattle.field_base.specs.lemmas.BitRing.{bits_ring}
use Rattle.field_base.specs.Tower.{tower_mul}
use Rattle.field_base.proofs.PowerLemmas.{one-times}
use Rattle.field_slices.specs.Matrices.{cleared_entry, joined_entry}
use Rattle.field_slices.proofs.Elimination.{PivotMade, brought-nonzero, cleared-other, cleared-own, joined-nonzero, joined-other, joined-same, joins_other, joins_same, pivot-made}
use Rattle.bits_packed.specs.BitMatrices.{ArePivotPlaces, IsBitRowWritten, IsBitWritten, IsStripAdded, bit_entry, present_bit, word_of}
use Rattle.bits_packed.proofs.BitRows.{entry-lt, one_bit}
use Rattle.bits_packed.proofs.PendingSums.{joined-sum, pivot-clears, present-before, present-free, present-lt, present-same}
use Rattle.bits_packed.proofs.WordColumns.{entry_of_word, multiple_added, other_words_stay}

-- where both rows are 0 their sum is
joined-zeros : (row other : ℕ) (A : ℕ → ℕ → ℕ) (j : ℕ) → A row j ≡ 0 → A other j ≡ 0 → joined_entry row other A j ≡ 0
joined-zeros row other A j zero other_zero =
    elim (cases_eq other row) [
      | inl same ↦ joined-same row other A j same ∙ zero
      | inr differs ↦ joined-other row other A j differs ∙ ap₂ bit_xor zero other_zero
    ]

-- ---- of matrices as functions

module _ (rows columns rank row column : ℕ) (old brought cleared : ℕ → ℕ → ℕ) (rank_within : rank < rows) (row_within : row < rows)
    (column_within : column < columns) (old_fits : (i j : ℕ) → old i j < 2) (brought_fits : (i j : ℕ) → brought i j < 2)
    (cleared_fits : (i j : ℕ) → cleared i j < 2)
    (joins_same : row ≡ rank → (j : ℕ) → j < columns → brought rank j ≡ old rank j)
    (joins_other : row ≢ rank → (j : ℕ) → j < columns → brought rank j ≡ bit_xor (old rank j) (old row j))
    (joins_rest : (i j : ℕ) → i ≢ rank → j < columns → brought i j ≡ old i j)
    (clears : (i j : ℕ) → i < rows → j < columns → cleared i j ≡ cleared_entry (tower_mul 0) rank column brought i j)
    (nonzero : old row column ≢ 0) (first : row ≢ rank → old rank column ≡ 0) where
  leading_one : brought rank column ≡ 1
  leading_one =
      one_bit (brought rank column) (brought_fits rank column)
      (brought-nonzero columns rank row column old brought column_within joins_same joins_other nonzero first)

  times_one : (j : ℕ) → tower_mul 0 1 (brought rank j) ≡ brought rank j
  times_one j = one-times 1 1 (tower_mul 0) bits_ring (brought rank j) (brought_fits rank j)

  -- there is nothing to scale
  pivot-cleared : PivotMade (tower_mul 0) rows columns rank row column old cleared
  pivot-cleared =
      pivot-made bits_ring rows columns rank row column rank_within row_within column_within old brought brought cleared
      old_fits brought_fits brought_fits cleared_fits joins_same joins_other joins_rest
      1 (ap (λ (x : ℕ). tower_mul 0 x 1) leading_one ∙ one-times 1 1 (tower_mul 0) bits_ring 1 (lit< tt)) (lit< tt)
      (λ j inside. sym (times_one j)) (λ i j other inside. refl)
      (λ i j below other inside. clears i j below inside ∙ cleared-other (tower_mul 0) rank column brought i j other)
      (λ j inside. clears rank j rank_within inside ∙ cleared-own (tower_mul 0) rank column brought rank j refl)

-- ---- of packed matrices

module _ (words : ℕ) {rows rank row column : ℕ} (places next old : List ℕ) {brought taken new : List ℕ} (rank_within : rank < rows) (row_within : row < rows)
    (behind : rank ≤ row) (column_within : column < 64 * words) (has : ArePivotPlaces rows rank (column % 64) (slice_index places))
    (nonzero : bit_entry words old row column ≢ 0) (first : row ≢ rank → bit_entry words old rank column ≡ 0)
    (rank_zeros : (j : ℕ) → j < column → present_bit rows words column places old rank j ≡ 0)
    (row_zeros : (j : ℕ) → j < column → present_bit rows words column places old row j ≡ 0)
    (brings : IsBitRowWritten words rank (joined_entry rank row (bit_entry words old)) old brought)
    (takes : IsBitWritten words rank column (bit_xor (bit_entry words brought rank column) 1) brought taken)
    (adds : IsStripAdded words (column / 64) 1 rows (λ i w. bit_entry words taken i column * word_of words taken rank (column / 64)) taken new)
    (long : length places ≡ 64) (sets : next ≡ slice_set places (column % 64) rank) where
  abbrev start : ℕ
  start = 64 * (column / 64)

  abbrev bit : ℕ
  bit = column % 64

  split : start + bit ≡ column
  split = omega arith

  bit_within : bit < 64
  bit_within = omega arith

  strip_within : start + 64 ≤ 64 * words
  strip_within = omega (arith, column_within)

  free : rows ≤ slice_index places bit
  free = has.free bit (omega arith) bit_within

  apart : (b : ℕ) → b < 64 → slice_index places b < rows → (slice_index places b ≢ rank) × (slice_index places b ≢ row)
  apart b inside is =
      let before = has.taken b inside is in
      (λ e. absurd (omega (arith, e, before)), λ e. absurd (omega (arith, e, before, behind)))

  next_own : slice_index next bit ≡ rank
  next_own = ap (λ (ps : List ℕ). slice_index ps bit) sets ∙ get_or-set_same places bit rank 0 (omega (arith, long))

  next_other : (b : ℕ) → b ≢ bit → slice_index next b ≡ slice_index places b
  next_other b other = ap (λ (ps : List ℕ). slice_index ps b) sets ∙ get_or-set_other places bit b rank 0 other

  -- the places are those of rows up to the new one
  places-more : ArePivotPlaces rows (rank + 1) (bit + 1) (slice_index next)
  places-more =
      record {
        taken = λ b inside is. elim (cases_eq b bit) [
          | inl same ↦ let e = ap (slice_index next) same ∙ next_own in omega (arith, e)
          | inr other ↦ later b inside other is
        ];
        free = λ b past inside.
            let e = next_other b (λ e. absurd (omega (arith, e, past))) in
            let none = has.free b (omega (arith, past)) inside in omega (arith, e, none);
      }
    where
      later : (b : ℕ) → b < 64 → b ≢ bit → slice_index next b < rows → slice_index next b < rank + 1
      later b inside other is =
          let e = next_other b other in
          let before = has.taken b inside (omega (arith, e, is)) in omega (arith, e, before)

  -- ---- the stored entries

  abbrev A : ℕ → ℕ → ℕ
  A = bit_entry words old

  abbrev B : ℕ → ℕ → ℕ
  B = bit_entry words brought

  one : B rank column ≡ 1
  one =
      one_bit (B rank column) (entry-lt words brought rank column)
      (joined-nonzero column_within brings nonzero first)

  zeros : (j : ℕ) → j < start → B rank j ≡ 0
  zeros j before =
      brings.entries j (omega (arith, before, column_within))
      ∙ joined-zeros rank row A j
      (sym (present-before rows start (slice_index places) A rank j before) ∙ rank_zeros j (omega (arith, before)))
      (sym (present-before rows start (slice_index places) A row j before) ∙ row_zeros j (omega (arith, before)))

  -- the bit of the pivot is taken away
  bit_taken : bit_entry words taken rank column ≡ 0
  bit_taken = takes.written ∙ ap (λ (x : ℕ). bit_xor x 1) one ∙ xor_self 1

  in_column : (b : ℕ) → b ≢ bit → start + b ≢ column
  in_column b other e = other (omega (arith, e))

  rank_taken : (b : ℕ) → b < 64 → b ≢ bit → bit_entry words taken rank (start + b) ≡ B rank (start + b)
  rank_taken b inside other = takes.others rank (start + b) (omega (arith, inside, strip_within)) (inr (in_column b other))

  other_taken : (i j : ℕ) → i ≢ rank → j < 64 * words → bit_entry words taken i j ≡ B i j
  other_taken i j differs inside = takes.others i j inside (inl differs)

  -- and the word of its row added to the others
  word_new : (i b : ℕ) → i < rows → b < 64 → bit_entry words new i (start + b)
      ≡ bit_xor (bit_entry words taken i (start + b)) (bit_entry words taken i column * bit_entry words taken rank (start + b))
  word_new i b inside short =
      multiple_added words (column / 64) rows (λ i w. bit_entry words taken i column * word_of words taken rank (column / 64)) taken new adds
      i b (bit_entry words taken i column) (word_of words taken rank (column / 64)) inside short (entry-lt words taken i column) refl
      ∙ ap (λ (x : ℕ). bit_xor (bit_entry words taken i (start + b)) (bit_entry words taken i column * x))
      (sym (entry_of_word words taken rank (column / 64) b short))

  rank_new : (b : ℕ) → b < 64 → bit_entry words new rank (start + b) ≡ bit_entry words taken rank (start + b)
  rank_new b short =
      word_new rank b rank_within short
      ∙ ap (bit_xor (bit_entry words taken rank (start + b)))
      (ap (λ (x : ℕ). x * bit_entry words taken rank (start + b)) bit_taken ∙ zero-mul (bit_entry words taken rank (start + b)))
      ∙ xor_zero_r (bit_entry words taken rank (start + b))

  own_bits : (b : ℕ) → b < 64 → b ≢ bit → bit_entry words new rank (start + b) ≡ B rank (start + b)
  own_bits b short other = rank_new b short ∙ rank_taken b short other

  own_bit : bit_entry words new rank (start + bit) ≡ 0
  own_bit = rank_new bit bit_within ∙ ap (bit_entry words taken rank) split ∙ bit_taken

  other_bits : (i b : ℕ) → i < rows → i ≢ rank → b < 64 → b ≢ bit
      → bit_entry words new i (start + b) ≡ bit_xor (B i (start + b)) (B i (start + bit) * B rank (start + b))
  other_bits i b inside differs short other =
      word_new i b inside short
      ∙ ap₂ bit_xor (other_taken i (start + b) differs (omega (arith, short, strip_within)))
      (ap₂ (λ (x y : ℕ). x * y) (other_taken i column differs column_within ∙ ap (B i) (sym split)) (rank_taken b short other))

  other_bit : (i : ℕ) → i < rows → i ≢ rank → bit_entry words new i (start + bit) ≡ B i (start + bit)
  other_bit i inside differs =
      let none : bit_entry words taken i column * 0 ≡ 0 = omega arith in
      word_new i bit inside bit_within
      ∙ ap₂ bit_xor (other_taken i (start + bit) differs (omega (arith, strip_within)))
      (ap (λ (x : ℕ). bit_entry words taken i column * x) (ap (bit_entry words taken rank) split ∙ bit_taken) ∙ none)
      ∙ xor_zero_r (B i (start + bit))

  outside_word : (i j : ℕ) → i < rows → j < 64 * words → (j < start) ⊎ (start + 64 ≤ j) → bit_entry words new i j ≡ B i j
  outside_word i j inside fits outside =
      other_words_stay words (column / 64) rows (λ i w. bit_entry words taken i column * word_of words taken rank (column / 64)) taken new adds
      i j fits outside
      ∙ takes.others i j fits (inr (apart_from outside))
    where
      apart_from : (j < start) ⊎ (start + 64 ≤ j) → j ≢ column
      apart_from (inl before) = λ e. absurd (omega (arith, e, before))
      apart_from (inr after) = λ e. absurd (omega (arith, e, after))

  -- ---- what they stand for

  abbrev was : ℕ → ℕ → ℕ
  was = present_bit rows words column places old

  abbrev joined : ℕ → ℕ → ℕ
  joined = present_bit rows words column places brought

  abbrev is_now : ℕ → ℕ → ℕ
  is_now = present_bit rows words column next new

  in_own_column : (i : ℕ) → was i column ≡ A i column
  in_own_column i =
      subst (λ (j : ℕ). was i j ≡ A i j) split (present-free rows start (slice_index places) A i bit bit_within free)

  joined_same : row ≡ rank → (j : ℕ) → j < 64 * words → joined rank j ≡ was rank j
  joined_same own =
      present-same rows start (64 * words) (slice_index places) A B strip_within
      (λ b j inside is fits. brings.others (slice_index places b) j (apart b inside is).0 fits) rank (joins_same column_within brings own)

  joined_other : row ≢ rank → (j : ℕ) → j < 64 * words → joined rank j ≡ bit_xor (was rank j) (was row j)
  joined_other other =
      joined-sum rows start (64 * words) rank row (slice_index places) A B (entry-lt words old) strip_within apart (joins_other column_within brings other) brings.others

  joined_rest : (i j : ℕ) → i ≢ rank → j < 64 * words → joined i j ≡ was i j
  joined_rest i j other fits =
      present-same rows start (64 * words) (slice_index places) A B strip_within
      (λ b n inside is fits. brings.others (slice_index places b) n (apart b inside is).0 fits) i (λ n fits. brings.others i n other fits) j fits

  clears : (i j : ℕ) → i < rows → j < 64 * words → is_now i j ≡ cleared_entry (tower_mul 0) rank column joined i j
  clears =
      subst (λ (n : ℕ). (i j : ℕ) → i < rows → j < 64 * words → is_now i j ≡ cleared_entry (tower_mul 0) rank n joined i j) split
      (pivot-clears rows start (64 * words) rank bit (slice_index places) (slice_index next) B (bit_entry words new) (entry-lt words brought)
      strip_within rank_within bit_within next_own next_other free (λ b inside is. (apart b inside is).0) zeros (ap (B rank) split ∙ one)
      own_bits own_bit other_bits other_bit outside_word)

  pub pivot-pending : PivotMade (tower_mul 0) rows (64 * words) rank row column was is_now
      × ArePivotPlaces rows (rank + 1) (bit + 1) (slice_index next)
  pivot-pending = (
    pivot-cleared rows (64 * words) rank row column was joined is_now rank_within row_within column_within
        (present-lt rows start (slice_index places) A (entry-lt words old)) (present-lt rows start (slice_index places) B (entry-lt words brought))
        (present-lt rows start (slice_index next) (bit_entry words new) (entry-lt words new))
        joined_same joined_other joined_rest clears
        (λ e. nonzero (sym (in_own_column row) ∙ e)) (λ other. in_own_column rank ∙ first other),
    places-more,
  )
