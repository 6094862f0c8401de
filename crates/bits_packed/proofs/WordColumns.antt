-- One word of each row of a packed matrix: what is added to it, the bits of a mask, and the bits of pivots.
use Rattle.std.proofs.Common.{◌≡◌, ◌≢◌, ◌⊎◌, inl, inr, ℕ, ◌+◌, ◌*◌, ◌-◌, ◌/◌, ◌%◌, ◌^◌, ◌<◌, ◌≤◌, List, length, min, refl, sym, subst, ◌∙◌, ap, ap₂, arith, below_more}
use Rattle.std.specs.Prelude.{bit_and, bit_xor, slice_index, slice_set}
use Rattle.std.specs.Int.{bit_at}
use Rattle.std.proofs.lemmas.Bool.{cases_eq, cases_lt}
use Rattle.std.proofs.lemmas.Nat.Bits.{bit_at_and, bit_at-lt, bit_at-pow_other, bit_at-pow_same, bit_at-zero}
use lib.Bits.{xor_self, xor_zero_r}
use Rattle.std.specs.Int.Bits.{xor_zero_l}
use Rattle.field_base.proofs.BasisSums.{sum_below-same}
use Rattle.field_slices.specs.Matrices.{identity_entry}
use Rattle.bits_packed.specs.BitMatrices.{ArePivotsSet, AreWordsAdded, HasTables, IsBitWritten, IsRangeWritten, IsStripAdded, bit_entry, entry_within, pending_sum, present_entry, row_word, sum_at_bits, sum_of_digits, word_of}
use Rattle.bits_packed.proofs.FourRowTables.{bit_of_product, bit_of_sum, bit_of_xor, row_behind, row_inside, sum_of_tables}
use Rattle.bits_packed.proofs.PendingSums.{each_column, entry-inside, entry-none, identity-other, identity-same, present-before, present-behind, present-free, present-none, present-taken}
use Rattle.bits_packed.proofs.WordRanges.{StripSoFar, range_start, range_step}

-- an entry by its word
pub entry_of_word : (words : ℕ) (values : List ℕ) (i word b : ℕ) → b < 64
    → bit_entry words values i (64 * word + b) ≡ bit_at (word_of words values i word) b
entry_of_word words values i word b inside =
    let quotient : (64 * word + b) / 64 ≡ word = omega (arith, inside) in
    let rest : (64 * word + b) % 64 ≡ b = omega (arith, inside) in
    ap₂ (λ (v k : ℕ). bit_at (word_of words values i v) k) quotient rest

-- the same of rows that the matrix may not have
pub row_bits : (rows words : ℕ) (values : List ℕ) (k j : ℕ)
    → bit_at (row_word rows words values k (j / 64)) (j % 64) ≡ entry_within rows (bit_entry words values) k j
row_bits rows words values k j =
    elim (cases_lt k rows) [
      | inl inside ↦
          ap (λ (x : ℕ). bit_at x (j % 64)) (row_inside rows words values k (j / 64) inside)
          ∙ sym (entry-inside rows (bit_entry words values) k j inside)
      | inr past ↦
          ap (λ (x : ℕ). bit_at x (j % 64)) (row_behind rows words values k (j / 64) past) ∙ bit_at-zero (j % 64)
          ∙ sym (entry-none rows (bit_entry words values) k j past)
    ]

-- ---- one word of a row

-- one word is written, by adding to it
pub word_added : (start at value : ℕ) (old now : List ℕ) → at ≡ start → at < length old
    → now ≡ slice_set old at (bit_xor (slice_index old at) value)
    → IsRangeWritten start 1 (λ p. bit_xor (slice_index old (start + p)) value) old now
word_added start at value old now own inside is =
    subst (λ (values : List ℕ). IsRangeWritten start 1 (λ p. bit_xor (slice_index old (start + p)) value) old values)
    (ap (λ (a : ℕ). slice_set old a (bit_xor (slice_index old at) value)) place ∙ sym is)
    (range_step range_start (bit_xor (slice_index old at) value)
    (omega (arith, own, inside)) (ap (λ (a : ℕ). bit_xor (slice_index old a) value) (sym place)))
  where
    place : start + 0 ≡ at
    place = omega (arith, own)

-- a word of a row that is still as it was
pub word_before : (words word n : ℕ) (sums : ℕ → ℕ → ℕ) (old now : List ℕ) → StripSoFar words word 1 n sums old now
    → word_of words now n word ≡ word_of words old n word
word_before words word n sums old now so_far =
    let none : word + 0 ≡ word = omega arith in
    subst (λ (v : ℕ). word_of words now n v ≡ word_of words old n v) none (so_far.rest n 0 (omega arith) (omega arith))

-- in one word of each row words were added
module _ (words word rows : ℕ) (sums : ℕ → ℕ → ℕ) (old now : List ℕ) (adds : IsStripAdded words word 1 rows sums old now) where
  pub one_word_added : (i : ℕ) → i < rows → word_of words now i word ≡ bit_xor (word_of words old i word) (sums i 0)
  one_word_added i inside =
      let none : word + 0 ≡ word = omega arith in
      subst (λ (v : ℕ). word_of words now i v ≡ bit_xor (word_of words old i v) (sums i 0)) none (adds.added i 0 inside (omega arith))

  -- the others stay
  pub other_words_stay : (i j : ℕ) → j < 64 * words → (j < 64 * word) ⊎ (64 * word + 64 ≤ j) → bit_entry words now i j ≡ bit_entry words old i j
  other_words_stay i j inside outside =
      ap (λ (x : ℕ). bit_at x (j % 64)) (adds.others i (j / 64) (omega (arith, inside)) (side outside))
    where
      side : (j < 64 * word) ⊎ (64 * word + 64 ≤ j) → (j / 64 < word) ⊎ (word + 1 ≤ j / 64)
      side (inl before) = inl (omega (arith, before))
      side (inr behind) = inr (omega (arith, behind))

  -- bits that are a multiple of those of a word
  pub multiple_added : (i b s other : ℕ) → i < rows → b < 64 → s < 2 → sums i 0 ≡ s * other
      → bit_entry words now i (64 * word + b) ≡ bit_xor (bit_entry words old i (64 * word + b)) (s * bit_at other b)
  multiple_added i b s other inside short small is =
      entry_of_word words now i word b short
      ∙ ap (λ (x : ℕ). bit_at x b) (one_word_added i inside ∙ ap (bit_xor (word_of words old i word)) is)
      ∙ bit_of_xor (word_of words old i word) (s * other) b
      ∙ ap₂ bit_xor (sym (entry_of_word words old i word b short)) (bit_of_product s other b small)

  -- bits that are taken away where a mask has them
  pub masked_bit : (i b mask : ℕ) → i < rows → b < 64 → sums i 0 ≡ bit_and (word_of words old i word) mask
      → ((bit_at mask b ≡ 1) → bit_entry words now i (64 * word + b) ≡ 0)
      × ((bit_at mask b ≡ 0) → bit_entry words now i (64 * word + b) ≡ bit_entry words old i (64 * word + b))
  masked_bit i b mask inside short is = (
    λ one. bits ∙ ap (bit_xor own) (min_one own (bit_at mask b) (bit_at-lt word_now b) one) ∙ xor_self own,
    λ none. bits ∙ ap (bit_xor own) (min_zero own (bit_at mask b) none) ∙ xor_zero_r own ∙ sym (entry_of_word words old i word b short),
  )
    where
      word_now : ℕ
      word_now = word_of words old i word

      own : ℕ
      own = bit_at word_now b

      bits : bit_entry words now i (64 * word + b) ≡ bit_xor own (min own (bit_at mask b))
      bits =
          entry_of_word words now i word b short
          ∙ ap (λ (x : ℕ). bit_at x b) (one_word_added i inside ∙ ap (bit_xor word_now) is)
          ∙ bit_of_xor word_now (bit_and word_now mask) b ∙ ap (bit_xor own) (bit_at_and word_now mask b)

      min_one : (x y : ℕ) → x < 2 → y ≡ 1 → min x y ≡ x
      min_one x y small e = omega (arith, small, e)

      min_zero : (x y : ℕ) → y ≡ 0 → min x y ≡ 0
      min_zero x y e = omega (arith, e)

-- ---- a mask

-- the bits of a word before bit n are given, and the others are 0
pub record MaskSoFar (given : ℕ → ℕ) (n mask : ℕ) : Type 0 where
  pub done : (b : ℕ) → b < n → bit_at mask b ≡ given b
  pub rest : (b : ℕ) → n ≤ b → bit_at mask b ≡ 0

pub mask_start : (given : ℕ → ℕ) → MaskSoFar given 0 0
mask_start given = record { done = λ b below. absurd (omega (arith, below)); rest = λ b past. bit_at-zero b }

pub mask_more : (given : ℕ → ℕ) (n mask more : ℕ) → given n < 2 → more ≡ given n * 2 ^ n → MaskSoFar given n mask
    → MaskSoFar given (n + 1) (bit_xor mask more)
mask_more given n mask more small is so_far =
    record {
      done = below_more (λ b. bit_at (bit_xor mask more) b ≡ given b) n
          (λ b below. other b (λ e. absurd (omega (arith, e, below))) ∙ so_far.done b below)
          (bit n ∙ ap₂ bit_xor (so_far.rest n (omega arith)) (ap (λ (x : ℕ). given n * x) (bit_at-pow_same n) ∙ once (given n))
          ∙ xor_zero_l (given n));
      rest = λ b past. other b (λ e. absurd (omega (arith, e, past))) ∙ so_far.rest b (omega (arith, past));
    }
  where
    once : (x : ℕ) → x * 1 ≡ x
    once x = omega arith

    none : (x : ℕ) → x * 0 ≡ 0
    none x = omega arith

    bit : (b : ℕ) → bit_at (bit_xor mask more) b ≡ bit_xor (bit_at mask b) (given n * bit_at (2 ^ n) b)
    bit b =
        bit_of_xor mask more b
        ∙ ap (bit_xor (bit_at mask b)) (ap (λ (x : ℕ). bit_at x b) is ∙ bit_of_product (given n) (2 ^ n) b small)

    other : (b : ℕ) → b ≢ n → bit_at (bit_xor mask more) b ≡ bit_at mask b
    other b differs =
        bit b ∙ ap (bit_xor (bit_at mask b)) (ap (λ (x : ℕ). given n * x) (bit_at-pow_other n b differs) ∙ none (given n))
        ∙ xor_zero_r (bit_at mask b)

-- 1 where there is a row, and else 0
pub row_bit-lt : (rows k : ℕ) → entry_within rows (λ k j. 1) k 0 < 2
row_bit-lt rows k =
    elim (cases_lt k rows) [
      | inl inside ↦ let is = entry-inside rows (λ k j. 1) k 0 inside in omega (arith, is)
      | inr past ↦ let is = entry-none rows (λ k j. 1) k 0 past in omega (arith, is)
    ]

-- ---- pivots that are set

pub pivots_start : (rows words first : ℕ) (place : ℕ → ℕ) (old : List ℕ) → ArePivotsSet rows words first 0 place old old
pivots_start rows words first place old =
    record { shape = refl; set = λ i b inside below. absurd (omega (arith, below)); others = λ i j inside outside. refl }

pub pivots_more : (rows words first n : ℕ) (place : ℕ → ℕ) (old now next : List ℕ) → first + (n + 1) ≤ 64 * words
    → ArePivotsSet rows words first n place old now
    → ArePivotsSet rows words (first + n) 1 (λ b. place n) now next → ArePivotsSet rows words first (n + 1) place old next
pivots_more rows words first n place old now next within so_far more =
    record {
      shape = more.shape ∙ so_far.shape;
      set = λ i b inside below.
          below_more
          (λ b. bit_entry words next i (first + b) ≡ bit_xor (bit_entry words old i (first + b)) (entry_within rows identity_entry (place b) i)) n
          (λ b before. more.others i (first + b) (omega (arith, before, within)) (inl (omega (arith, before))) ∙ so_far.set i b inside before)
          (own i inside) b below;
      others = λ i j inside outside.
          more.others i j inside (wider j outside) ∙ so_far.others i j inside (narrower j outside);
    }
  where
    wider : (j : ℕ) → (j < first) ⊎ (first + (n + 1) ≤ j) → (j < first + n) ⊎ (first + n + 1 ≤ j)
    wider j (inl before) = inl (omega (arith, before))
    wider j (inr behind) = inr (omega (arith, behind))

    narrower : (j : ℕ) → (j < first) ⊎ (first + (n + 1) ≤ j) → (j < first) ⊎ (first + n ≤ j)
    narrower j (inl before) = inl before
    narrower j (inr behind) = inr (omega (arith, behind))

    own : (i : ℕ) → i < rows
        → bit_entry words next i (first + n) ≡ bit_xor (bit_entry words old i (first + n)) (entry_within rows identity_entry (place n) i)
    own i inside =
        let none : first + n + 0 ≡ first + n = omega arith in
        subst (λ (j : ℕ). bit_entry words next i j ≡ bit_xor (bit_entry words now i j) (entry_within rows identity_entry (place n) i)) none
        (more.set i 0 inside (omega arith))
        ∙ ap (λ (x : ℕ). bit_xor x (entry_within rows identity_entry (place n) i)) (so_far.others i (first + n) (omega (arith, within)) (inr (omega arith)))

-- one of them
pub pivot_set : (rows words column row : ℕ) (old now : List ℕ) → row < rows → column < 64 * words
    → IsBitWritten words row column (bit_xor (bit_entry words old row column) 1) old now
    → ArePivotsSet rows words column 1 (λ b. row) old now
pivot_set rows words column row old now within column_within write =
    record {
      shape = write.shape;
      set = λ i b inside below.
          let none : column ≡ column + b = omega (arith, below) in
          subst (λ (j : ℕ). bit_entry words now i j ≡ bit_xor (bit_entry words old i j) (entry_within rows identity_entry row i)) none
          (own i (cases_eq i row));
      others = λ i j inside outside. write.others i j inside (inr (apart j outside));
    }
  where
    is : (i : ℕ) → entry_within rows identity_entry row i ≡ identity_entry row i
    is i = entry-inside rows identity_entry row i within

    own : (i : ℕ) → (i ≡ row) ⊎ (i ≡ row → ⊥)
        → bit_entry words now i column ≡ bit_xor (bit_entry words old i column) (entry_within rows identity_entry row i)
    own i (inl same) =
        subst (λ (k : ℕ). bit_entry words now k column ≡ bit_xor (bit_entry words old k column) (entry_within rows identity_entry row k)) (sym same)
        (write.written ∙ ap (bit_xor (bit_entry words old row column)) (sym (is row ∙ identity-same row row refl)))
    own i (inr other) =
        write.others i column column_within (inl other) ∙ sym (xor_zero_r (bit_entry words old i column))
        ∙ ap (bit_xor (bit_entry words old i column)) (sym (is i ∙ identity-other row i (λ e. other (sym e))))

    apart : (j : ℕ) → (j < column) ⊎ (column + 1 ≤ j) → j ≢ column
    apart j (inl before) = λ e. absurd (omega (arith, e, before))
    apart j (inr behind) = λ e. absurd (omega (arith, e, behind))

-- or none
pub pivot_missing : (rows words column row : ℕ) (old : List ℕ) → rows ≤ row → ArePivotsSet rows words column 1 (λ b. row) old old
pivot_missing rows words column row old past =
    record {
      shape = refl;
      set = λ i b inside below.
          sym (ap (bit_xor (bit_entry words old i (column + b))) (entry-none rows identity_entry row i past)
          ∙ xor_zero_r (bit_entry words old i (column + b)));
      others = λ i j inside outside. refl;
    }

-- ---- sums that are added behind a word

pub words_added_none : (words from rows : ℕ) (sums : ℕ → ℕ → ℕ) (old : List ℕ) → AreWordsAdded words from from rows sums old old
words_added_none words from rows sums old =
    record { shape = refl; added = λ i v inside within past below. absurd (omega (arith, past, below)); others = λ i v within outside. refl }

-- the sum that is to be added in a word
abbrev pub sum_behind : ℕ → ℕ → ℕ → (ℕ → ℕ) → List ℕ → ℕ → ℕ → ℕ
sum_behind rows words word place values i v =
    sum_at_bits (λ b. row_word rows words values (place b) v) 64 (word_of words values i word)

-- in a strip, by tables
pub strip_sums : (words word rows start width : ℕ) (place : ℕ → ℕ) (tables old now : List ℕ)
    → HasTables width 16 (λ k w. row_word rows words old (place k) (start + w)) tables
    → IsStripAdded words start width rows (λ i w. sum_of_digits tables (word_of words old i word) 16 w) old now
    → AreWordsAdded words start (start + width) rows (sum_behind rows words word place old) old now
strip_sums words word rows start width place tables old now has write =
    record {
      shape = write.shape;
      added = λ i v inside within past below.
          let split : start + (v - start) ≡ v = omega (arith, past) in
          subst (λ (u : ℕ). word_of words now i u ≡ bit_xor (word_of words old i u) (sum_behind rows words word place old i u)) split
          (here i (v - start) inside (omega (arith, past, below)));
      others = write.others;
    }
  where
    here : (i w : ℕ) → i < rows → w < width
        → word_of words now i (start + w) ≡ bit_xor (word_of words old i (start + w)) (sum_behind rows words word place old i (start + w))
    here i w inside short =
        write.added i w inside short
        ∙ ap (bit_xor (word_of words old i (start + w)))
        (sum_of_tables width w (λ k w. row_word rows words old (place k) (start + w)) tables (word_of words old i word) has short)

-- in a strip after another one, where neither has the rows and the words that say what is to be added
pub words_added_then : (words word rows from mid to : ℕ) (place : ℕ → ℕ) (old now next : List ℕ) → word < from → from ≤ mid → mid ≤ to
    → to ≤ words → AreWordsAdded words from mid rows (sum_behind rows words word place old) old now
    → AreWordsAdded words mid to rows (sum_behind rows words word place now) now next
    → AreWordsAdded words from to rows (sum_behind rows words word place old) old next
words_added_then words word rows from mid to place old now next before order more fits first second =
    record {
      shape = second.shape ∙ first.shape;
      added = λ i v inside within past below. elim (cases_lt v mid) [
        | inl earlier ↦ second.others i v within (inl earlier) ∙ first.added i v inside within past earlier
        | inr later ↦ second.added i v inside within later below
            ∙ ap₂ bit_xor (first.others i v within (inr later)) (sum_same i v within later)
      ];
      others = λ i v within outside.
          second.others i v within (outside_second v outside) ∙ first.others i v within (outside_first v outside);
    }
  where
    row_kept : (k v : ℕ) → v < words → mid ≤ v → row_word rows words now k v ≡ row_word rows words old k v
    row_kept k v within later =
        elim (cases_lt k rows) [
          | inl is ↦ row_inside rows words now k v is ∙ first.others k v within (inr later) ∙ sym (row_inside rows words old k v is)
          | inr past ↦ row_behind rows words now k v past ∙ sym (row_behind rows words old k v past)
        ]

    sum_same : (i v : ℕ) → v < words → mid ≤ v → sum_behind rows words word place now i v ≡ sum_behind rows words word place old i v
    sum_same i v within later =
        sum_below-same (λ b. bit_at (word_of words now i word) b * row_word rows words now (place b) v)
        (λ b. bit_at (word_of words old i word) b * row_word rows words old (place b) v) 64
        (λ b short. ap₂ (λ (x y : ℕ). bit_at x b * y) (first.others i word (omega (arith, before, order, more, fits, later, within)) (inl before))
        (row_kept (place b) v within later))

    outside_second : (v : ℕ) → (v < from) ⊎ (to ≤ v) → (v < mid) ⊎ (to ≤ v)
    outside_second v (inl earlier) = inl (omega (arith, earlier, order))
    outside_second v (inr later) = inr later

    outside_first : (v : ℕ) → (v < from) ⊎ (to ≤ v) → (v < from) ⊎ (mid ≤ v)
    outside_first v (inl earlier) = inl earlier
    outside_first v (inr later) = inr (omega (arith, later, more))

-- ---- the end of a word of columns

module _ (rows words word mask : ℕ) (place : ℕ → ℕ) (old behind cleared now : List ℕ) (within : word < words)
    (is_mask : (b : ℕ) → b < 64 → bit_at mask b ≡ entry_within rows (λ k j. 1) (place b) 0)
    (adds : AreWordsAdded words (word + 1) words rows
    (λ i v. sum_at_bits (λ b. row_word rows words old (place b) v) 64 (word_of words old i word)) old behind)
    (clears : IsStripAdded words word 1 rows (λ i w. bit_and (word_of words behind i word) mask) behind cleared)
    (sets : ArePivotsSet rows words (64 * word) 64 place cleared now) where
  abbrev A : ℕ → ℕ → ℕ
  A = bit_entry words old

  abbrev first : ℕ
  first = 64 * word

  -- entries up to the word stay, and so do those in columns without a pivot
  early : (i j : ℕ) → j < first + 64 → bit_entry words behind i j ≡ A i j
  early i j before =
      ap (λ (x : ℕ). bit_at x (j % 64)) (adds.others i (j / 64) (omega (arith, before, within)) (inl (omega (arith, before))))

  before_word : (i j : ℕ) → j < first → bit_entry words now i j ≡ A i j
  before_word i j before =
      sets.others i j (omega (arith, before, within)) (inl before)
      ∙ other_words_stay words word rows (λ i w. bit_and (word_of words behind i word) mask) behind cleared clears i j
      (omega (arith, before, within)) (inl before)
      ∙ early i j (omega (arith, before))

  -- entries of the word are cleared where the mask has a bit
  masked : (i b : ℕ) → i < rows → b < 64
      → ((bit_at mask b ≡ 1) → bit_entry words cleared i (first + b) ≡ 0)
      × ((bit_at mask b ≡ 0) → bit_entry words cleared i (first + b) ≡ bit_entry words behind i (first + b))
  masked i b inside short =
      masked_bit words word rows (λ i w. bit_and (word_of words behind i word) mask) behind cleared clears i b mask inside short refl

  set_column : (i b x y : ℕ) → i < rows → b < 64 → bit_entry words cleared i (first + b) ≡ x
      → entry_within rows identity_entry (place b) i ≡ y → bit_entry words now i (first + b) ≡ bit_xor x y
  set_column i b x y inside short left right = sets.set i b inside short ∙ ap₂ bit_xor left right

  taken_column : (i b : ℕ) → i < rows → b < 64 → place b < rows → bit_entry words now i (first + b) ≡ identity_entry (place b) i
  taken_column i b inside short taken =
      let own = identity_entry (place b) i in
      set_column i b 0 own inside short
      ((masked i b inside short).0 (is_mask b short ∙ entry-inside rows (λ k j. 1) (place b) 0 taken))
      (entry-inside rows identity_entry (place b) i taken)
      ∙ xor_zero_l own

  free_column : (i b : ℕ) → i < rows → b < 64 → rows ≤ place b → bit_entry words now i (first + b) ≡ A i (first + b)
  free_column i b inside short free =
      set_column i b (bit_entry words behind i (first + b)) 0 inside short
      ((masked i b inside short).1 (is_mask b short ∙ entry-none rows (λ k j. 1) (place b) 0 free))
      (entry-none rows identity_entry (place b) i free)
      ∙ xor_zero_r (bit_entry words behind i (first + b)) ∙ early i (first + b) (omega (arith, short))

  -- behind the word the sums are added
  sum_bits : (i j : ℕ) → bit_at (sum_at_bits (λ b. row_word rows words old (place b) (j / 64)) 64 (word_of words old i word)) (j % 64)
      ≡ pending_sum rows first place A i j
  sum_bits i j =
      bit_of_sum (λ b. bit_at (word_of words old i word) b * row_word rows words old (place b) (j / 64)) (j % 64) 64
      ∙ sum_below-same (λ b. bit_at (bit_at (word_of words old i word) b * row_word rows words old (place b) (j / 64)) (j % 64))
      (λ b. A i (first + b) * entry_within rows A (place b) j) 64
      (λ b short.
      bit_of_product (bit_at (word_of words old i word) b) (row_word rows words old (place b) (j / 64)) (j % 64)
      (bit_at-lt (word_of words old i word) b)
      ∙ ap₂ (λ (x y : ℕ). x * y) (sym (entry_of_word words old i word b short)) (row_bits rows words old (place b) j))

  behind_word : (i j : ℕ) → i < rows → j < 64 * words → first + 64 ≤ j
      → bit_entry words now i j ≡ bit_xor (A i j) (pending_sum rows first place A i j)
  behind_word i j inside fits past =
      sets.others i j fits (inr past)
      ∙ other_words_stay words word rows (λ i w. bit_and (word_of words behind i word) mask) behind cleared clears i j fits (inr past)
      ∙ ap (λ (x : ℕ). bit_at x (j % 64))
      (adds.added i (j / 64) inside (omega (arith, fits)) (omega (arith, past)) (omega (arith, fits)))
      ∙ bit_of_xor (word_of words old i (j / 64))
      (sum_at_bits (λ b. row_word rows words old (place b) (j / 64)) 64 (word_of words old i word)) (j % 64)
      ∙ ap (bit_xor (A i j)) (sum_bits i j)

  pub sums_added : (i j : ℕ) → i < rows → j < 64 * words → bit_entry words now i j ≡ present_entry rows first place A i j
  sums_added i j inside =
      each_column rows first place A (λ n. bit_entry words now i n ≡ present_entry rows first place A i n) (64 * words)
      (λ n before. before_word i n before ∙ sym (present-before rows first place A i n before))
      (λ b short taken. taken_column i b inside short taken ∙ sym (present-taken rows first place A i b short taken))
      (λ b short free. free_column i b inside short free ∙ sym (present-free rows first place A i b short free))
      (λ n fits past. behind_word i n inside fits past ∙ sym (present-behind rows first place A i n past)) j

-- where the mask is 0 there is nothing to add
pub no_sums : (rows first mask : ℕ) (place : ℕ → ℕ) (A : ℕ → ℕ → ℕ) → mask ≡ 0
    → ((b : ℕ) → b < 64 → bit_at mask b ≡ entry_within rows (λ k j. 1) (place b) 0) → (i j : ℕ) → A i j ≡ present_entry rows first place A i j
no_sums rows first mask place A none is_mask i j =
    sym (present-none rows first place A (λ b short. elim (cases_lt (place b) rows) [
      | inl inside ↦ absurd (clash b short inside)
      | inr past ↦ past
    ]) i j)
  where
    clash : (b : ℕ) → b < 64 → place b < rows → ⊥
    clash b short inside =
        let bit = is_mask b short ∙ entry-inside rows (λ k j. 1) (place b) 0 inside in
        let zero_bit = ap (λ (x : ℕ). bit_at x b) none ∙ bit_at-zero b in omega (arith, bit, zero_bit)
