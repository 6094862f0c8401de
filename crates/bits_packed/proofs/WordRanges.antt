-- Words of a list that are written one after another, and strips of the rows of a matrix.
use Rattle.std.proofs.Common.{◌≡◌, ◌≢◌, ◌⊎◌, inl, inr, ℕ, ◌+◌, ◌*◌, ◌-◌, ◌%◌, ◌<◌, ◌≤◌, List, length, refl, sym, ◌∙◌, ap, ap₂, arith, below_more, get_or-set_other, get_or-set_same}
use Rattle.std.specs.Prelude.{bit_xor, slice_index, slice_set}
use Rattle.std.proofs.lemmas.Bool.{cases_lt, cases_order}
use Rattle.std.proofs.lemmas.List.{length-set}
use native.Mathlib.Nat.{add-mul, mul-le-mul_right}
use lib.Bits.{xor_assoc, xor_zero_r}
use Rattle.std.specs.Int.Bits.{xor_zero_l}
use Rattle.bits_packed.specs.BitMatrices.{IsKeptOutside, IsRangeWritten, IsStrip, IsStripAdded, word_of}
use lib.Arith.{digits_lt}

-- ---- ranges

pub range_start : {start : ℕ} {wanted : ℕ → ℕ} {old : List ℕ} → IsRangeWritten start 0 wanted old old
range_start =
    record { shape = refl; written = λ p below. absurd (omega (arith, below)); others = λ p outside. refl }

module _ {start n : ℕ} {wanted : ℕ → ℕ} {old now : List ℕ} (so_far : IsRangeWritten start n wanted old now) where
  -- a place outside of the longer range is not the one that is written
  apart : (p : ℕ) → (p < start) ⊎ (start + (n + 1) ≤ p) → p ≢ start + n
  apart p (inl before) = λ e. absurd (omega (arith, e, before))
  apart p (inr behind) = λ e. absurd (omega (arith, e, behind))

  -- and lies outside of the shorter one
  wider : (p : ℕ) → (p < start) ⊎ (start + (n + 1) ≤ p) → (p < start) ⊎ (start + n ≤ p)
  wider p (inl before) = inl before
  wider p (inr behind) = inr (omega (arith, behind))

  -- one word more
  pub range_step : (value : ℕ) → start + n < length old → value ≡ wanted n
      → IsRangeWritten start (n + 1) wanted old (slice_set now (start + n) value)
  range_step value inside is =
      record {
        shape = length-set now (start + n) value ∙ so_far.shape;
        written = below_more (λ p. slice_index (slice_set now (start + n) value) (start + p) ≡ wanted p) n
            (λ p below.
            get_or-set_other now (start + n) (start + p) value 0 (λ e. absurd (omega (arith, e, below))) ∙ so_far.written p below)
            (get_or-set_same now (start + n) value 0 (omega (arith, inside, so_far.shape)) ∙ is);
        others = λ p outside. get_or-set_other now (start + n) p value 0 (apart p outside) ∙ so_far.others p (wider p outside);
      }

  -- a word of the range that is not yet written
  pub range_rest : (p : ℕ) → n ≤ p → slice_index now (start + p) ≡ slice_index old (start + p)
  range_rest p past = so_far.others (start + p) (inr (omega (arith, past)))

  -- a range of another length that is as long
  pub range_end : (count : ℕ) → n ≡ count → IsRangeWritten start count wanted old now
  range_end count e = rw (sym e) so_far

-- other names for the words that are written
pub range_same : {start count : ℕ} {wanted other : ℕ → ℕ} {old now : List ℕ} → ((p : ℕ) → p < count → wanted p ≡ other p)
    → IsRangeWritten start count wanted old now → IsRangeWritten start count other old now
range_same same write =
    record { shape = write.shape; written = λ p inside. write.written p inside ∙ same p inside; others = write.others }

-- a range, and one behind it
module _ {start n m : ℕ} {wanted : ℕ → ℕ} {old now next : List ℕ} (first : IsRangeWritten start n wanted old now)
    (second : IsRangeWritten (start + n) m (λ p. wanted (n + p)) now next) where
  in_second : (p : ℕ) → n ≤ p → p < n + m → slice_index next (start + p) ≡ wanted p
  in_second p past inside =
      let place : start + p ≡ start + n + (p - n) = omega (arith, past) in
      let own : n + (p - n) ≡ p = omega (arith, past) in
      ap (slice_index next) place ∙ second.written (p - n) (omega (arith, past, inside)) ∙ ap wanted own

  outside_first : (p : ℕ) → (p < start) ⊎ (start + (n + m) ≤ p) → (p < start) ⊎ (start + n ≤ p)
  outside_first p (inl before) = inl before
  outside_first p (inr behind) = inr (omega (arith, behind))

  outside_second : (p : ℕ) → (p < start) ⊎ (start + (n + m) ≤ p) → (p < start + n) ⊎ (start + n + m ≤ p)
  outside_second p (inl before) = inl (omega (arith, before))
  outside_second p (inr behind) = inr (omega (arith, behind))

  pub range_more : IsRangeWritten start (n + m) wanted old next
  range_more = record {
    shape = second.shape ∙ first.shape;
    written = λ p inside. elim (cases_lt p n) [
      | inl before ↦ second.others (start + p) (inl (omega (arith, before))) ∙ first.written p before
      | inr past ↦ in_second p past inside
    ];
    others = λ p outside. second.others p (outside_second p outside) ∙ first.others p (outside_first p outside);
  }

-- words of one range are added to those of another, a part after the other
module _ (to from count n m : ℕ) (old now next : List ℕ) (inside : n + m ≤ count) (apart : (from + count ≤ to) ⊎ (to + count ≤ from))
    (so_far : IsRangeWritten to n (λ p. bit_xor (slice_index old (to + p)) (slice_index old (from + p))) old now)
    (write : IsRangeWritten (to + n) m (λ p. bit_xor (slice_index now (to + n + p)) (slice_index now (from + n + p))) now next) where
  -- a word of the other range is none that was written
  other_kept : (p : ℕ) → p < m → slice_index now (from + n + p) ≡ slice_index old (from + n + p)
  other_kept p below = so_far.others (from + n + p) (away apart)
    where
      away : (from + count ≤ to) ⊎ (to + count ≤ from) → (from + n + p < to) ⊎ (to + n ≤ from + n + p)
      away (inl before) = inl (omega (arith, before, inside, below))
      away (inr behind) = inr (omega (arith, behind))

  part : (p : ℕ) → p < m → bit_xor (slice_index now (to + n + p)) (slice_index now (from + n + p))
      ≡ bit_xor (slice_index old (to + (n + p))) (slice_index old (from + (n + p)))
  part p below =
      let own : to + n + p ≡ to + (n + p) = omega arith in
      let other : from + n + p ≡ from + (n + p) = omega arith in
      ap₂ bit_xor (so_far.others (to + n + p) (inr (omega arith)) ∙ ap (slice_index old) own)
      (other_kept p below ∙ ap (slice_index old) other)

  pub added_more : IsRangeWritten to (n + m) (λ p. bit_xor (slice_index old (to + p)) (slice_index old (from + p))) old next
  added_more =
      range_more so_far (range_same part write)

-- what a word becomes by the sum of the words of a list and those from a place on
abbrev pub added_to : List ℕ → List ℕ → ℕ → ℕ → ℕ
added_to old sums start p = bit_xor (slice_index old (start + p)) (slice_index sums p)

-- and where the list is eight words, over and over
abbrev pub added_eight : List ℕ → List ℕ → ℕ → ℕ → ℕ
added_eight old row start p = bit_xor (slice_index old (start + p)) (slice_index row (p % 8))

-- a range from the front, without its start
pub front_read : (n : ℕ) (wanted : ℕ → ℕ) (old now : List ℕ) → IsRangeWritten 0 n wanted old now
    → (p : ℕ) → p < n → slice_index now p ≡ wanted p
front_read n wanted old now write p inside = let e : p ≡ 0 + p = omega arith in ap (slice_index now) e ∙ write.written p inside

-- one word more at the front
front_more : (n value : ℕ) (wanted : ℕ → ℕ) (now : List ℕ) → n < length now → value ≡ wanted n
    → ((p : ℕ) → p < n → slice_index now p ≡ wanted p) → (p : ℕ) → p < n + 1 → slice_index (slice_set now n value) p ≡ wanted p
front_more n value wanted now inside is before =
    below_more (λ p. slice_index (slice_set now n value) p ≡ wanted p) n
    (λ p below. get_or-set_other now n p value 0 (λ e. absurd (omega (arith, e, below))) ∙ before p below)
    (get_or-set_same now n value 0 inside ∙ is)

-- a list of so many words of which the first n have these values
abbrev pub IsFilledTo : ℕ → (ℕ → ℕ) → ℕ → List ℕ → Type 0
IsFilledTo size wanted n now = (length now ≡ size) × ((p : ℕ) → p < n → slice_index now p ≡ wanted p)

-- and one more has its own
pub one_more_filled : (size n value : ℕ) (wanted : ℕ → ℕ) (now : List ℕ) → n < size → value ≡ wanted n → IsFilledTo size wanted n now
    → IsFilledTo size wanted (n + 1) (slice_set now n value)
one_more_filled size n value wanted now inside is so_far =
    (length-set now n value ∙ so_far.0, front_more n value wanted now (omega (arith, so_far.0, inside)) is so_far.1)

-- a range that lies in a wider one keeps what is outside of that
pub range_keeps : (first size start count : ℕ) (wanted : ℕ → ℕ) (old now : List ℕ) → first ≤ start → start + count ≤ first + size
    → IsRangeWritten start count wanted old now → IsKeptOutside first size old now
range_keeps first size start count wanted old now low high write p (inl before) = write.others p (inl (omega (arith, before, low)))
range_keeps first size start count wanted old now low high write p (inr behind) = write.others p (inr (omega (arith, behind, high)))

-- ---- places of rows

-- the words of a strip of a row are words of the matrix
pub row_fits : (words rows row last : ℕ) → row < rows → last ≤ words → row * words + last ≤ rows * words
row_fits words rows row last inside within =
    let more : (row + 1) * words ≤ rows * words = mul-le-mul_right words (omega (arith, inside)) in
    let split : (row + 1) * words ≡ row * words + 1 * words = add-mul row 1 words in
    omega (arith, more, split, within)

-- the same of the words of one row
same_row : (base other v start width : ℕ) → other ≡ base → (v < start) ⊎ (start + width ≤ v)
    → (other + v < base + start) ⊎ (base + start + width ≤ other + v)
same_row base other v start width e (inl before) = inl (omega (arith, e, before))
same_row base other v start width e (inr behind) = inr (omega (arith, e, behind))

-- a word of another row, or outside of a strip, does not stand where the strip of row n does
module _ (words start width : ℕ) (strip : IsStrip words start width) (n i v : ℕ) (inside : v < words) where
  other_row : i ≢ n → (i * words + v < n * words + start) ⊎ (n * words + start + width ≤ i * words + v)
  other_row other =
      elim (cases_order i n) [
        | inl same ↦ absurd (other same)
        | inr order ↦ elim order [
          | inl earlier ↦ inl (let less = digits_lt earlier inside in omega (arith, less))
          | inr later ↦
              inr (let fits = row_fits words i n (start + width) later strip.within in omega (arith, fits))
        ]
      ]

  outside_strip : (v < start) ⊎ (start + width ≤ v) → (i * words + v < n * words + start) ⊎ (n * words + start + width ≤ i * words + v)
  outside_strip outside =
      elim (cases_order i n) [
        | inl same ↦ same_row (n * words) (i * words) v start width (ap (λ (k : ℕ). k * words) same) outside
        | inr order ↦ other_row (λ e. elim order [
          | inl earlier ↦ omega (arith, e, earlier)
          | inr later ↦ omega (arith, e, later)
        ])
      ]

-- ---- strips

-- in a strip the rows before row n have these words added, and the others are as they were
pub record StripSoFar (words start width n : ℕ) (sums : ℕ → ℕ → ℕ) (old now : List ℕ) : Type 0 where
  pub added : IsStripAdded words start width n sums old now
  pub rest : (i w : ℕ) → n ≤ i → w < width → word_of words now i (start + w) ≡ word_of words old i (start + w)

pub strip_start : {words start width : ℕ} {sums : ℕ → ℕ → ℕ} {old : List ℕ} → StripSoFar words start width 0 sums old old
strip_start =
    record {
      added = record {
        shape = refl;
        added = λ i w below inside. absurd (omega (arith, below));
        others = λ i v inside outside. refl;
      };
      rest = λ i w past inside. refl;
    }

module _ {words start width : ℕ} (strip : IsStrip words start width) {n : ℕ} {sums : ℕ → ℕ → ℕ} (own : ℕ → ℕ) {old now next : List ℕ}
    (so_far : StripSoFar words start width n sums old now)
    (write : IsRangeWritten (n * words + start) width (λ p. bit_xor (slice_index now (n * words + start + p)) (own p)) now next)
    (is : (w : ℕ) → w < width → own w ≡ sums n w) where
  -- a word of another row stays
  stays : (i w : ℕ) → w < width → i ≢ n → word_of words next i (start + w) ≡ word_of words now i (start + w)
  stays i w inside other =
      write.others (i * words + (start + w))
      (other_row words start width strip n i (start + w) (omega (arith, inside, strip.within)) other)

  place : (w : ℕ) → n * words + (start + w) ≡ n * words + start + w
  place w = omega arith

  -- the words of this one are added
  here : (w : ℕ) → w < width → word_of words next n (start + w) ≡ bit_xor (word_of words old n (start + w)) (sums n w)
  here w inside =
      ap (slice_index next) (place w) ∙ write.written w inside
      ∙ ap₂ bit_xor (ap (slice_index now) (sym (place w)) ∙ so_far.rest n w (omega arith) inside) (is w inside)

  -- one row more
  pub strip_step : StripSoFar words start width (n + 1) sums old next
  strip_step =
      record {
        added = record {
          shape = write.shape ∙ so_far.added.shape;
          added = λ i w below inside.
              below_more (λ k. word_of words next k (start + w) ≡ bit_xor (word_of words old k (start + w)) (sums k w)) n
              (λ k before. stays k w inside (λ e. absurd (omega (arith, e, before))) ∙ so_far.added.added k w before inside)
              (here w inside) i below;
          others = λ i v inside outside.
              write.others (i * words + v) (outside_strip words start width strip n i v inside outside)
              ∙ so_far.added.others i v inside outside;
        };
        rest = λ i w past inside.
            stays i w inside (λ e. absurd (omega (arith, e, past))) ∙ so_far.rest i w (omega (arith, past)) inside;
      }

-- nothing is added before the first words are
pub strip_none : {words start width rows : ℕ} {sums : ℕ → ℕ → ℕ} {old : List ℕ} → ((i w : ℕ) → sums i w ≡ 0)
    → IsStripAdded words start width rows sums old old
strip_none {words} {start} {old = old} none =
    record {
      shape = refl;
      added = λ i w below inside. sym (ap (bit_xor (word_of words old i (start + w))) (none i w) ∙ xor_zero_r (word_of words old i (start + w)));
      others = λ i v inside outside. refl;
    }

-- words that are added after others
pub strip_more : {words start width rows : ℕ} {before more sums : ℕ → ℕ → ℕ} {old mid now : List ℕ}
    → ((i w : ℕ) → i < rows → w < width → bit_xor (before i w) (more i w) ≡ sums i w)
    → IsStripAdded words start width rows before old mid → IsStripAdded words start width rows more mid now
    → IsStripAdded words start width rows sums old now
strip_more {words} {start} {before = before} {more = more} {old = old} both first second =
    record {
      shape = second.shape ∙ first.shape;
      added = λ i w below inside.
          second.added i w below inside ∙ ap (λ (x : ℕ). bit_xor x (more i w)) (first.added i w below inside)
          ∙ xor_assoc (word_of words old i (start + w)) (before i w) (more i w)
          ∙ ap (bit_xor (word_of words old i (start + w))) (both i w below inside);
      others = λ i v inside outside. second.others i v inside outside ∙ first.others i v inside outside;
    }

-- ---- strip after strip

-- the words before word n of each row are these, and the others are 0
pub record WordsSoFar (words n rows : ℕ) (total : ℕ → ℕ → ℕ) (now : List ℕ) : Type 0 where
  pub done : (i v : ℕ) → i < rows → v < words → v < n → word_of words now i v ≡ total i v
  pub rest : (i v : ℕ) → i < rows → v < words → n ≤ v → word_of words now i v ≡ 0

pub words_start : {words rows len : ℕ} {total : ℕ → ℕ → ℕ} {old now : List ℕ} → len ≡ rows * words
    → IsRangeWritten 0 len (λ p. 0) old now → WordsSoFar words 0 rows total now
words_start {words} {rows} {len} {old = old} {now = now} whole cleared =
    record {
      done = λ i v inside within below. absurd (omega (arith, below));
      rest = λ i v inside within past.
          front_read len (λ p. 0) old now cleared (i * words + v) (let less = digits_lt inside within in omega (arith, less, whole));
    }

pub words_step : {words start width rows : ℕ} {total : ℕ → ℕ → ℕ} {now next : List ℕ} → IsStrip words start width
    → (width ≡ 8) ⊎ (start + width ≡ words) → WordsSoFar words start rows total now
    → IsStripAdded words start width rows (λ i w. total i (start + w)) now next → WordsSoFar words (start + 8) rows total next
words_step {words} {start} {width} {rows} {total} {now} {next} strip last so_far write =
    record {
      done = λ i v inside within below. elim (cases_lt v start) [
        | inl before ↦ write.others i v within (inl before) ∙ so_far.done i v inside within before
        | inr past ↦
            let split : start + (v - start) ≡ v = omega (arith, past) in
            rw (sym split) (written i (v - start) inside (in_strip v last below within past) (omega (arith, split, within)))
      ];
      rest = λ i v inside within past.
          write.others i v within (inr (omega (arith, past, strip.narrow))) ∙ so_far.rest i v inside within (omega (arith, past));
    }
  where
    in_strip : (v : ℕ) → (width ≡ 8) ⊎ (start + width ≡ words) → v < start + 8 → v < words → start ≤ v → v - start < width
    in_strip v (inl full) below within past = omega (arith, full, below, past)
    in_strip v (inr end) below within past = omega (arith, end, within, past)

    written : (i w : ℕ) → i < rows → w < width → start + w < words → word_of words next i (start + w) ≡ total i (start + w)
    written i w inside short within =
        write.added i w inside short ∙ ap (λ (x : ℕ). bit_xor x (total i (start + w))) (so_far.rest i (start + w) inside within (omega arith))
        ∙ xor_zero_l (total i (start + w))
