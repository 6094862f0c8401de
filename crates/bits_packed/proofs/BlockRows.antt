-- Rows of blocks of matrices of bytes: where they stand, and their packed sums.
use Rattle.std.proofs.Common.{◌≡◌, ◌≢◌, ◌⊎◌, inl, inr, ℕ, ◌+◌, ◌*◌, ◌-◌, ◌/◌, ◌%◌, ◌<◌, ◌≤◌, Bool, true, false, List, length, refl, sym, ◌∙◌, ap, arith, below_more, get_or-set_other, get_or-set_same}
use Rattle.std.specs.Prelude.{if◌then◌else◌, nat_lt, slice_index, slice_set}
use Rattle.std.specs.Int.{bit_at}
use Rattle.std.proofs.lemmas.Bool.{cases_lt, le-ltb, lt-ltb}
use Rattle.std.proofs.lemmas.List.{length-set}
use Rattle.bits_packed.specs.BitMatrices.{bit_entry}
use Rattle.bits_packed.specs.BytesAsBits.{AreBitsWritten, block_entry}
use lib.Arith.{digits_lt}

-- ---- words

pub bits-start : (first : ℕ) (wanted : ℕ → ℕ → ℕ) (old : List ℕ) → AreBitsWritten first 0 wanted old old
bits-start first wanted old = record { shape = refl; written = λ w b below. absurd (omega (arith, below)); others = λ p outside. refl }

-- one word more
module _ (first n : ℕ) (wanted : ℕ → ℕ → ℕ) (old now : List ℕ) (so_far : AreBitsWritten first n wanted old now) where
  apart : (p : ℕ) → (p < first) ⊎ (first + (n + 1) ≤ p) → (p ≢ first + n) × ((p < first) ⊎ (first + n ≤ p))
  apart p (inl before) = (λ e. absurd (omega (arith, e, before)), inl before)
  apart p (inr behind) = (λ e. absurd (omega (arith, e, behind)), inr (omega (arith, behind)))

  pub bits-step : (value : ℕ) → first + n < length old → ((b : ℕ) → b < 64 → bit_at value b ≡ wanted n b)
      → AreBitsWritten first (n + 1) wanted old (slice_set now (first + n) value)
  bits-step value room is = record {
    shape = length-set now (first + n) value ∙ so_far.shape;
    written = λ w b below inside.
        below_more (λ w. (b : ℕ) → b < 64 → bit_at (slice_index (slice_set now (first + n) value) (first + w)) b ≡ wanted w b) n
        (λ w below b inside.
        ap (λ (x : ℕ). bit_at x b) (get_or-set_other now (first + n) (first + w) value 0 (λ e. absurd (omega (arith, e, below))))
        ∙ so_far.written w b below inside)
        (λ b inside. ap (λ (x : ℕ). bit_at x b) (get_or-set_same now (first + n) value 0 (omega (arith, room, so_far.shape))) ∙ is b inside)
        w below b inside;
    others = λ p outside.
        get_or-set_other now (first + n) p value 0 (apart p outside).0 ∙ so_far.others p (apart p outside).1;
  }

-- the bytes of a word of a row of a block, of which there are fewer at its end
pub word-bytes : (width row column columns i : ℕ) (values : List ℕ) (word done count first b : ℕ)
    → done ≡ (if nat_lt (64 * word) columns then 64 * word else columns) → count ≡ (if nat_lt (columns - done) 64 then columns - done else 64)
    → first ≡ (row + i) * width + column → b < 64
    → (if nat_lt b count then slice_index values (first + done + b) else 0) ≡ block_entry width values row column columns i (64 * word + b)
word-bytes width row column columns i values word done count first b done-is count-is first-is inside =
    elim (cases_lt (64 * word + b) columns) [
      | inl within ↦ here within
      | inr behind ↦ none (past behind) ∙ sym (told false (le-ltb (64 * word + b) columns behind))
    ]
  where
    told : (t : Bool) → nat_lt (64 * word + b) columns ≡ t
        → block_entry width values row column columns i (64 * word + b)
        ≡ (if t then slice_index values ((row + i) * width + column + (64 * word + b)) else 0)
    told t e = ap (λ (x : Bool). if x then slice_index values ((row + i) * width + column + (64 * word + b)) else 0) e

    none : count ≤ b → (if nat_lt b count then slice_index values (first + done + b) else 0) ≡ 0
    none late = ap (λ (t : Bool). if t then slice_index values (first + done + b) else 0) (le-ltb b count late)

    begun : 64 * word < columns → done ≡ 64 * word
    begun less = done-is ∙ ap (λ (t : Bool). if t then 64 * word else columns) (lt-ltb (64 * word) columns less)

    here : 64 * word + b < columns → (if nat_lt b count then slice_index values (first + done + b) else 0)
        ≡ block_entry width values row column columns i (64 * word + b)
    here within =
        let start = begun (omega (arith, within)) in
        let place : first + done + b ≡ (row + i) * width + column + (64 * word + b) = omega (arith, start, first-is) in
        ap (λ (t : Bool). if t then slice_index values (first + done + b) else 0) (lt-ltb b count (many start within))
        ∙ ap (slice_index values) place ∙ sym (told true (lt-ltb (64 * word + b) columns within))
      where
        many : done ≡ 64 * word → 64 * word + b < columns → b < count
        many start within = elim (cases_lt (columns - done) 64) [
          | inl less ↦
              let is = count-is ∙ ap (λ (t : Bool). if t then columns - done else 64) (lt-ltb (columns - done) 64 less) in
              omega (arith, is, start, within)
          | inr more ↦
              let is = count-is ∙ ap (λ (t : Bool). if t then columns - done else 64) (le-ltb (columns - done) 64 more) in
              omega (arith, is, inside)
        ]

    past : columns ≤ 64 * word + b → count ≤ b
    past behind = elim (cases_lt (64 * word) columns) [
      | inl less ↦ let start = begun less in
          let few : columns - done < 64 = omega (arith, start, behind, inside) in
          let is = count-is ∙ ap (λ (t : Bool). if t then columns - done else 64) (lt-ltb (columns - done) 64 few) in
          omega (arith, is, start, behind)
      | inr more ↦
          let start = done-is ∙ ap (λ (t : Bool). if t then 64 * word else columns) (le-ltb (64 * word) columns more) in
          let few : columns - done < 64 = omega (arith, start) in
          let is = count-is ∙ ap (λ (t : Bool). if t then columns - done else 64) (lt-ltb (columns - done) 64 few) in
          omega (arith, is, start)
    ]

-- rows that are written one after another
abbrev pub RowsSoFar : ℕ → ℕ → (ℕ → ℕ → ℕ) → List ℕ → Type 0
RowsSoFar n words wanted now = (i w b : ℕ) → i < n → w < words → b < 64 → bit_at (slice_index now (i * words + w)) b ≡ wanted i (64 * w + b)

pub rows-step : (n words rows : ℕ) (wanted : ℕ → ℕ → ℕ) (now next : List ℕ) → RowsSoFar n words wanted now
    → AreBitsWritten (n * words) words (λ w b. wanted n (64 * w + b)) now next → RowsSoFar (n + 1) words wanted next
rows-step n words rows wanted now next so_far row i w b below inside bit =
    below_more (λ i. (w b : ℕ) → w < words → b < 64 → bit_at (slice_index next (i * words + w)) b ≡ wanted i (64 * w + b)) n
    (λ i below w b inside bit.
    let early = digits_lt below inside in
    ap (λ (x : ℕ). bit_at x b) (row.others (i * words + w) (inl early)) ∙ so_far i w b below inside bit)
    (λ w b inside bit. row.written w b inside bit) i below w b inside bit

-- give the entries
pub rows-end : (words rows : ℕ) (wanted : ℕ → ℕ → ℕ) (now : List ℕ) → RowsSoFar rows words wanted now → (i j : ℕ) → i < rows → j < 64 * words
    → bit_entry words now i j ≡ wanted i j
rows-end words rows wanted now so_far i j inside within =
    let place : 64 * (j / 64) + j % 64 ≡ j = omega arith in
    so_far i (j / 64) (j % 64) inside (omega (arith, within)) (omega arith) ∙ ap (wanted i) place
