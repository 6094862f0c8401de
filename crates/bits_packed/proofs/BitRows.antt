-- Rows of packed matrices: sums of two, fewer columns of the same rows, and the same entries.
use Rattle.std.proofs.Common.{◌≡◌, ◌≢◌, ◌⊎◌, inl, inr, ℕ, ◌+◌, ◌*◌, ◌-◌, ◌/◌, ◌%◌, ◌^◌, ◌<◌, ◌≤◌, Bool, List, length, refl, sym, subst, ◌∙◌, ap, ap₂, arith, get_or-set_other, get_or-set_same}
use Rattle.std.specs.Prelude.{bit_xor, if◌then◌else◌, slice_index, slice_set}
use Rattle.std.specs.Int.{bit_at}
use Rattle.std.proofs.lemmas.Bool.{cases_eq, cases_lt, cases_order, le-ltb, lt-ltb}
use Rattle.std.proofs.lemmas.List.{length-set}
use Rattle.std.proofs.lemmas.Nat.{pow_below}
use Rattle.std.proofs.lemmas.Nat.Bits.{bit_at-lt, bit_at-pow_other, bit_at-pow_same, bit_at-zero}
use native.Mathlib.Nat.{one-mul, zero-mul}
use lib.Bits.{xor_zero_r}
use Rattle.field_base.specs.Basis.{sum_below}
use Rattle.field_base.specs.lemmas.BitRing.{two_cases}
use Rattle.field_base.proofs.BasisSums.{sum_below-same}
use Rattle.field_base.specs.Tower.{tower_mul}
use Rattle.field_slices.specs.Matrices.{AreRowsReduced, HaveSameRowSpace, IsReducedEchelon, IsRowCombination}
use Rattle.field_slices.proofs.MatrixRows.{places-differ}
use Rattle.bits_packed.specs.BitMatrices.{IsBitRowWritten, IsBitWritten, IsRangeWritten, bit_entry, kept_before, word_of}
use Rattle.bits_packed.proofs.FourRowTables.{bit_of_product, bit_of_xor}
use Rattle.bits_packed.proofs.WordRanges.{row_fits}
use lib.Arith.{digits_lt}

-- an entry is a bit
pub entry-lt : (words : ℕ) (values : List ℕ) (i j : ℕ) → bit_entry words values i j < 2
entry-lt words values i j = bit_at-lt (word_of words values i (j / 64)) (j % 64)

-- a bit that is not 0 is 1
pub one_bit : (b : ℕ) → b < 2 → b ≢ 0 → b ≡ 1
one_bit b small some = omega (arith, small, some)

-- ---- a row that is added to another

-- the words of two rows from one on do not meet
pub rows_differ : (words to from first : ℕ) → from ≢ to → first ≤ words
    → (from * words + first + (words - first) ≤ to * words + first) ⊎ (to * words + first + (words - first) ≤ from * words + first)
rows_differ words to from first other within =
    elim (cases_order from to) [
      | inl same ↦ absurd (other same)
      | inr order ↦ elim order [
        | inl earlier ↦ inl (let fits = row_fits words to from words earlier (omega arith) in omega (arith, fits, within))
        | inr later ↦ inr (let fits = row_fits words from to words later (omega arith) in omega (arith, fits, within))
      ]
    ]

-- the words of a row from one on are written
module _ (words row first own : ℕ) (wanted : ℕ → ℕ) (old now : List ℕ) (within : first ≤ words) (own_is : own ≡ row * words + first)
    (write : IsRangeWritten own (words - first) wanted old now) where
  written_word : (v : ℕ) → first ≤ v → v < words → word_of words now row v ≡ wanted (v - first)
  written_word v past inside =
      let place : row * words + v ≡ own + (v - first) = omega (arith, past, own_is) in
      ap (slice_index now) place ∙ write.written (v - first) (omega (arith, past, inside))

  -- an earlier one stays
  kept_word : (v : ℕ) → v < first → word_of words now row v ≡ word_of words old row v
  kept_word v before = write.others (row * words + v) (inl (omega (arith, before, own_is)))

  -- and so do those of the other rows
  other_word : (i v : ℕ) → i ≢ row → v < words → word_of words now i v ≡ word_of words old i v
  other_word i v differs inside =
      write.others (i * words + v)
      (elim (cases_order i row) [
        | inl same ↦ absurd (differs same)
        | inr order ↦ elim order [
          | inl earlier ↦ inl (let less = digits_lt earlier inside in omega (arith, less, own_is))
          | inr later ↦ inr (let fits = row_fits words i row words later (omega arith) in omega (arith, fits, within, own_is))
        ]
      ])

  -- so that entries are known by those before the first word and those of what is written
  pub row_written : (entries : ℕ → ℕ) → ((j : ℕ) → j < 64 * first → bit_entry words old row j ≡ entries j)
      → ((j : ℕ) → 64 * first ≤ j → j < 64 * words → bit_at (wanted (j / 64 - first)) (j % 64) ≡ entries j)
      → IsBitRowWritten words row entries old now
  row_written entries before behind = record {
    shape = write.shape;
    entries = λ j inside. elim (cases_lt (j / 64) first) [
      | inl less ↦ ap (λ (x : ℕ). bit_at x (j % 64)) (kept_word (j / 64) less) ∙ before j (omega (arith, less))
      | inr past ↦ ap (λ (x : ℕ). bit_at x (j % 64)) (written_word (j / 64) past (omega (arith, inside)))
          ∙ behind j (omega (arith, past)) inside
    ];
    others = λ i j differs inside. ap (λ (x : ℕ). bit_at x (j % 64)) (other_word i (j / 64) differs (omega (arith, inside)));
  }

-- the sum of the words of two rows
module _ (words to from first own other : ℕ) (old now : List ℕ) (within : first ≤ words)
    (own_is : own ≡ to * words + first) (other_is : other ≡ from * words + first)
    (write : IsRangeWritten own (words - first) (λ p. bit_xor (slice_index old (own + p)) (slice_index old (other + p))) old now) where
  added_word : (v : ℕ) → first ≤ v → bit_xor (slice_index old (own + (v - first))) (slice_index old (other + (v - first)))
      ≡ bit_xor (word_of words old to v) (word_of words old from v)
  added_word v past =
      let place : own + (v - first) ≡ to * words + v = omega (arith, past, own_is) in
      let other_place : other + (v - first) ≡ from * words + v = omega (arith, past, other_is) in
      ap₂ bit_xor (ap (slice_index old) place) (ap (slice_index old) other_place)

  pub row_added : ((j : ℕ) → j < 64 * first → bit_entry words old from j ≡ 0)
      → IsBitRowWritten words to (λ j. bit_xor (bit_entry words old to j) (bit_entry words old from j)) old now
  row_added zeros =
      row_written words to first own (λ p. bit_xor (slice_index old (own + p)) (slice_index old (other + p))) old now within own_is write
      (λ j. bit_xor (bit_entry words old to j) (bit_entry words old from j))
      (λ j before. sym (xor_zero_r (bit_entry words old to j)) ∙ ap (bit_xor (bit_entry words old to j)) (sym (zeros j before)))
      (λ j past inside.
      ap (λ (x : ℕ). bit_at x (j % 64)) (added_word (j / 64) (omega (arith, past)))
      ∙ bit_of_xor (word_of words old to (j / 64)) (word_of words old from (j / 64)) (j % 64))

-- ---- a row that is cleared, and a bit that is added

module _ (n : ℕ) (row : ℕ → ℕ) (j : ℕ) where
  pub kept-front : j < n → kept_before n row j ≡ row j
  kept-front before = ap (λ (b : Bool). if b then row j else 0) (lt-ltb j n before)

  pub kept-behind : n ≤ j → kept_before n row j ≡ 0
  kept-behind past = ap (λ (b : Bool). if b then row j else 0) (le-ltb j n past)

pub row_cleared : (words row first own : ℕ) (old now : List ℕ) → first ≤ words → own ≡ row * words + first
    → IsRangeWritten own (words - first) (λ p. 0) old now → IsBitRowWritten words row (kept_before (64 * first) (bit_entry words old row)) old now
row_cleared words row first own old now within own_is write =
    row_written words row first own (λ p. 0) old now within own_is write (kept_before (64 * first) (bit_entry words old row))
    (λ j before. sym (kept-front (64 * first) (bit_entry words old row) j before))
    (λ j past inside. bit_at-zero (j % 64) ∙ sym (kept-behind (64 * first) (bit_entry words old row) j past))

-- a bit that is shifted in a word is not lost
pub shift-fits : (value k : ℕ) → value < 2 → k < 64 → value * 2 ^ k < 2 ^ 64
shift-fits value k small inside =
    two_cases (λ x. x * 2 ^ k < 2 ^ 64) (let none = zero-mul (2 ^ k) in omega (arith, none))
    (subst (λ (x : ℕ). x < 2 ^ 64) (sym (one-mul (2 ^ k))) (pow_below k 64 inside)) value small

module _ (words row column own value shifted : ℕ) (old : List ℕ) (own_is : own ≡ row * words + column / 64) (inside : own < length old)
    (within : column < 64 * words) (small : value < 2) (shifted_is : shifted ≡ value * 2 ^ (column % 64)) where
  -- what the word becomes
  abbrev word_now : ℕ
  word_now = bit_xor (slice_index old own) shifted

  word_bit : (k : ℕ) → bit_at word_now k ≡ bit_xor (bit_at (slice_index old own) k) (value * bit_at (2 ^ (column % 64)) k)
  word_bit k =
      bit_of_xor (slice_index old own) shifted k
      ∙ ap (bit_xor (bit_at (slice_index old own) k)) (ap (λ (x : ℕ). bit_at x k) shifted_is ∙ bit_of_product value (2 ^ (column % 64)) k small)

  times_one : value * 1 ≡ value
  times_one = omega arith

  times_zero : value * 0 ≡ 0
  times_zero = omega arith

  own_bit : bit_at word_now (column % 64) ≡ bit_xor (bit_entry words old row column) value
  own_bit =
      word_bit (column % 64)
      ∙ ap₂ bit_xor (ap (λ (p : ℕ). bit_at (slice_index old p) (column % 64)) own_is)
      (ap (λ (x : ℕ). value * x) (bit_at-pow_same (column % 64)) ∙ times_one)

  other_bit : (k : ℕ) → k ≢ column % 64 → bit_at word_now k ≡ bit_at (slice_index old own) k
  other_bit k differs =
      word_bit k ∙ ap (bit_xor (bit_at (slice_index old own) k)) (ap (λ (x : ℕ). value * x) (bit_at-pow_other (column % 64) k differs) ∙ times_zero)
      ∙ xor_zero_r (bit_at (slice_index old own) k)

  -- an entry in the same word, and one in another
  entry_kept : (i j : ℕ) → j < 64 * words → (i ≢ row) ⊎ (j ≢ column) → (i * words + j / 64 ≡ own) ⊎ (i * words + j / 64 ≡ own → ⊥)
      → bit_entry words (slice_set old own word_now) i j ≡ bit_entry words old i j
  entry_kept i j fits other (inr apart) =
      ap (λ (x : ℕ). bit_at x (j % 64)) (get_or-set_other old own (i * words + j / 64) word_now 0 apart)
  entry_kept i j fits other (inl same) =
      ap (λ (x : ℕ). bit_at x (j % 64)) (ap (slice_index (slice_set old own word_now)) same ∙ get_or-set_same old own word_now 0 inside)
      ∙ other_bit (j % 64) (differs other) ∙ ap (λ (p : ℕ). bit_at (slice_index old p) (j % 64)) (sym same)
    where
      clash : (i ≢ row) ⊎ (j / 64 ≢ column / 64) → ⊥
      clash apart = places-differ words i (j / 64) row (column / 64) (omega (arith, fits)) (omega (arith, within)) apart (same ∙ own_is)

      differs : (i ≢ row) ⊎ (j ≢ column) → j % 64 ≢ column % 64
      differs (inl rows) e = clash (inl rows)
      differs (inr columns) e = clash (inr (λ q. columns (omega (arith, q, e))))

  pub bit_added : (now : List ℕ) → now ≡ slice_set old own word_now
      → IsBitWritten words row column (bit_xor (bit_entry words old row column) value) old now
  bit_added now is =
      subst (λ (values : List ℕ). IsBitWritten words row column (bit_xor (bit_entry words old row column) value) old values) (sym is)
      (record {
        shape = length-set old own word_now;
        written = ap (λ (x : ℕ). bit_at x (column % 64))
            (ap (slice_index (slice_set old own word_now)) (sym own_is) ∙ get_or-set_same old own word_now 0 inside) ∙ own_bit;
        others = λ i j fits other. entry_kept i j fits other (cases_eq (i * words + j / 64) own);
      })

-- ---- some of the columns

-- matrices with the same row space have it in any choice of their columns
module _ (times : ℕ → ℕ → ℕ) (rows columns some : ℕ) (place : ℕ → ℕ) (fits : (j : ℕ) → j < some → place j < columns) where
  passes : (A B : ℕ → ℕ → ℕ) → HaveSameRowSpace times rows columns A B → (v : ℕ → ℕ)
      → IsRowCombination times rows some (λ i j. A i (place j)) v → IsRowCombination times rows some (λ i j. B i (place j)) v
  passes A B same v given =
      let found = (same (λ j. sum_below (λ i. times (given.0 i) (A i j)) rows)).0 (given.0, λ j inside. refl) in
      (found.0, λ j inside. given.1 j inside ∙ found.1 (place j) (fits j inside))

  pub space_of_columns : (A B : ℕ → ℕ → ℕ) → HaveSameRowSpace times rows columns A B
      → HaveSameRowSpace times rows some (λ i j. A i (place j)) (λ i j. B i (place j))
  space_of_columns A B same = λ v. (passes A B same v, passes B A (λ u. ((same u).1, (same u).0)) v)

-- ---- matrices that are read alike

-- the words of a row are counted in two ways
pub same_words : {words count : ℕ} → words ≡ count → {rows columns rank : ℕ} {old now was pivots : List ℕ}
    → AreRowsReduced (bit_entry words) (tower_mul 0) rows (64 * words) columns rank old now was pivots
    → AreRowsReduced (bit_entry count) (tower_mul 0) rows (64 * count) columns rank old now was pivots
same_words are {rows} {columns} {rank} {old} {now} {was} {pivots} =
    subst (λ (n : ℕ). AreRowsReduced (bit_entry n) (tower_mul 0) rows (64 * n) columns rank old now was pivots) are

module _ (rows columns : ℕ) (A B : ℕ → ℕ → ℕ) (same : (i j : ℕ) → i < rows → j < columns → B i j ≡ A i j) where
  pub space_equal : (times : ℕ → ℕ → ℕ) → HaveSameRowSpace times rows columns A B
  space_equal times = λ v. (
    λ given. (
      given.0,
      λ j inside.
          given.1 j inside ∙ sum_below-same (λ i. times (given.0 i) (A i j)) (λ i. times (given.0 i) (B i j)) rows
          (λ i below. ap (times (given.0 i)) (sym (same i j below inside))),
    ),
    λ given. (
      given.0,
      λ j inside.
          given.1 j inside ∙ sum_below-same (λ i. times (given.0 i) (B i j)) (λ i. times (given.0 i) (A i j)) rows
          (λ i below. ap (times (given.0 i)) (same i j below inside)),
    ),
  )

  pub echelon_equal : (rank : ℕ) (pivot : ℕ → ℕ) → IsReducedEchelon rows columns rank pivot A → IsReducedEchelon rows columns rank pivot B
  echelon_equal rank pivot form = record {
    rank_fits = form.rank_fits;
    pivots_fit = form.pivots_fit;
    pivots_rise = form.pivots_rise;
    leading = λ i below. same i (pivot i) (row i below) (form.pivots_fit i below) ∙ form.leading i below;
    zeros_before = λ i j below before.
        same i j (row i below) (let fits = form.pivots_fit i below in omega (arith, before, fits)) ∙ form.zeros_before i j below before;
    alone = λ i k below within other. same k (pivot i) within (form.pivots_fit i below) ∙ form.alone i k below within other;
    zero_rows = λ i j past within inside. same i j within inside ∙ form.zero_rows i j past within inside;
  }
    where
      row : (i : ℕ) → i < rank → i < rows
      row i below = omega (arith, below, form.rank_fits)
