-- Matrices in whose rows sums of pivot rows are still to be added: the entries that they stand for, and what a pivot makes of them.
use Rattle.std.proofs.Common.{◌≡◌, ◌≢◌, ◌⊎◌, inl, inr, ℕ, zero, suc, ◌+◌, ◌*◌, ◌-◌, ◌/◌, ◌%◌, ◌<◌, ◌≤◌, Bool, refl, sym, subst, ◌∙◌, ap, ap₂, arith}
use Rattle.std.specs.Prelude.{bit_xor, if◌then◌else◌, nat_lt}
use Rattle.std.proofs.lemmas.Bool.{cases_eq, cases_lt, eq-eqb, le-ltb, lt-ltb, ne_eqb}
use Rattle.std.proofs.lemmas.Nat.{xor_lt}
use native.Mathlib.Nat.{one-mul, zero-mul}
use lib.Bits.{xor_assoc, xor_comm, xor_self, xor_zero_r}
use Rattle.field_base.specs.Basis.{sum_below}
use Rattle.field_base.specs.lemmas.BitRing.{two_cases}
use Rattle.field_base.specs.Tower.{tower_mul}
use Rattle.field_base.proofs.BasisSums.{sum_below-same}
use Rattle.field_slices.specs.Matrices.{cleared_entry, identity_entry}
use Rattle.field_slices.proofs.Elimination.{cleared-other, cleared-own}
use Rattle.field_slices.proofs.RowSpaces.{sum_of_sums}
use Rattle.packed_lanes.specs.lemmas.BitImage.{bit_sum}
use Rattle.bits_packed.specs.BitMatrices.{ArePivotPlaces, pending_sum, present_entry, entry_within}
use Rattle.bits_packed.proofs.FourRowTables.{bit_times, sum_zero}
use Rattle.field_base.proofs.RingLemmas.{xor_exchange}

-- ---- sums

-- a bit over a sum
bit_over_sum : (b x y : ℕ) → b < 2 → b * bit_xor x y ≡ bit_xor (b * x) (b * y)
bit_over_sum b x y small =
    two_cases (λ c. c * bit_xor x y ≡ bit_xor (c * x) (c * y))
    (zero-mul (bit_xor x y) ∙ sym (ap₂ bit_xor (zero-mul x) (zero-mul y)))
    (one-mul (bit_xor x y) ∙ sym (ap₂ bit_xor (one-mul x) (one-mul y))) b small

-- a product of bits
bit_product : (a b : ℕ) → a < 2 → b < 2 → a * b < 2
bit_product a b small other_small =
    two_cases (λ c. c * b < 2) (let none = zero-mul b in omega (arith, none)) (let once = one-mul b in omega (arith, once, other_small)) a small

-- a bit times a sum
sum_multiple : (s : ℕ) (f : ℕ → ℕ) (n : ℕ) → s < 2 → sum_below (λ b. s * f b) n ≡ s * sum_below f n
unfolding sum_below
sum_multiple s f zero small = omega arith
sum_multiple s f (suc n) small =
    ap (λ (x : ℕ). bit_xor x (s * f n)) (sum_multiple s f n small) ∙ sym (bit_over_sum s (sum_below f n) (f n) small)

-- one term of a sum has something added
sum_with_one : (f g : ℕ → ℕ) (k r n : ℕ) → k < n → ((b : ℕ) → b < n → b ≢ k → g b ≡ f b) → g k ≡ bit_xor (f k) r
    → sum_below g n ≡ bit_xor (sum_below f n) r
unfolding sum_below
sum_with_one f g k r zero below others own = absurd (omega (arith, below))
sum_with_one f g k r (suc n) below others own =
    elim (cases_eq k n) [
      | inl last ↦
          ap₂ bit_xor
          (sum_below-same g f n (λ b before. others b (omega (arith, before)) (λ e. absurd (omega (arith, e, last, before)))))
          (sym (ap g last) ∙ own ∙ ap (λ (b : ℕ). bit_xor (f b) r) last)
          ∙ sym (xor_assoc (sum_below f n) (f n) r)
      | inr earlier ↦
          ap₂ bit_xor
          (sum_with_one f g k r n (omega (arith, below, earlier)) (λ b before other. others b (omega (arith, before)) other) own)
          (others n (omega arith) (λ e. earlier (sym e)))
          ∙ xor_assoc (sum_below f n) r (f n) ∙ ap (bit_xor (sum_below f n)) (xor_comm r (f n)) ∙ sym (xor_assoc (sum_below f n) (f n) r)
    ]

-- what equals a bit is one
small_as : (x y : ℕ) → x ≡ y → y < 2 → x < 2
small_as x y e small = omega (arith, e, small)

-- a sum of bits is one
sum_of_bits : (f : ℕ → ℕ) (n : ℕ) → ((b : ℕ) → f b < 2) → sum_below f n < 2
unfolding sum_below
sum_of_bits f zero small = omega arith
sum_of_bits f (suc n) small = xor_lt 1 (sum_below f n) (f n) (sum_of_bits f n small) (small n)

-- ---- what an entry stands for

module _ (k i : ℕ) where
  pub identity-same : k ≡ i → identity_entry k i ≡ 1
  identity-same same = ap (λ (t : Bool). if t then 1 else 0) (eq-eqb k i same)

  pub identity-other : k ≢ i → identity_entry k i ≡ 0
  identity-other differs = ap (λ (t : Bool). if t then 1 else 0) (ne_eqb k i differs)

module _ (rows : ℕ) (A : ℕ → ℕ → ℕ) (k j : ℕ) where
  pub entry-inside : k < rows → entry_within rows A k j ≡ A k j
  entry-inside inside = ap (λ (t : Bool). if t then A k j else 0) (lt-ltb k rows inside)

  pub entry-none : rows ≤ k → entry_within rows A k j ≡ 0
  entry-none past = ap (λ (t : Bool). if t then A k j else 0) (le-ltb k rows past)

module _ (rows first : ℕ) (place : ℕ → ℕ) (A : ℕ → ℕ → ℕ) where
  abbrev in_strip : ℕ → ℕ → ℕ
  in_strip i j = if nat_lt (place (j - first)) rows then identity_entry (place (j - first)) i else A i j

  abbrev behind : ℕ → ℕ → ℕ
  behind i j = bit_xor (A i j) (pending_sum rows first place A i j)

  pub present-before : (i j : ℕ) → j < first → present_entry rows first place A i j ≡ A i j
  unfolding present_entry
  present-before i j before =
      ap (λ (t : Bool). if t then A i j else if nat_lt j (first + 64) then in_strip i j else behind i j) (lt-ltb j first before)

  pub present-behind : (i j : ℕ) → first + 64 ≤ j
      → present_entry rows first place A i j ≡ bit_xor (A i j) (pending_sum rows first place A i j)
  unfolding present_entry
  present-behind i j past =
      ap (λ (t : Bool). if t then A i j else if nat_lt j (first + 64) then in_strip i j else behind i j) (le-ltb j first (omega (arith, past)))
      ∙ ap (λ (t : Bool). if t then in_strip i j else behind i j) (le-ltb j (first + 64) past)

  present-within : (i b : ℕ) → b < 64 → present_entry rows first place A i (first + b) ≡ in_strip i (first + b)
  unfolding present_entry
  present-within i b inside =
      let j = first + b in
      ap (λ (t : Bool). if t then A i j else if nat_lt j (first + 64) then in_strip i j else behind i j) (le-ltb j first (omega arith))
      ∙ ap (λ (t : Bool). if t then in_strip i j else behind i j) (lt-ltb j (first + 64) (omega (arith, inside)))

  pub present-taken : (i b : ℕ) → b < 64 → place b < rows → present_entry rows first place A i (first + b) ≡ identity_entry (place b) i
  present-taken i b inside taken =
      let own : first + b - first ≡ b = omega arith in
      present-within i b inside
      ∙ ap (λ (c : ℕ). if nat_lt (place c) rows then identity_entry (place c) i else A i (first + b)) own
      ∙ ap (λ (t : Bool). if t then identity_entry (place b) i else A i (first + b)) (lt-ltb (place b) rows taken)

  pub present-free : (i b : ℕ) → b < 64 → rows ≤ place b → present_entry rows first place A i (first + b) ≡ A i (first + b)
  present-free i b inside free =
      let own : first + b - first ≡ b = omega arith in
      present-within i b inside
      ∙ ap (λ (c : ℕ). if nat_lt (place c) rows then identity_entry (place c) i else A i (first + b)) own
      ∙ ap (λ (t : Bool). if t then identity_entry (place b) i else A i (first + b)) (le-ltb (place b) rows free)

  -- what holds of the columns before the strip, in it and behind it holds of each
  pub each_column : (P : ℕ → Type 0) (columns : ℕ) → ((j : ℕ) → j < first → P j)
      → ((b : ℕ) → b < 64 → place b < rows → P (first + b)) → ((b : ℕ) → b < 64 → rows ≤ place b → P (first + b))
      → ((j : ℕ) → j < columns → first + 64 ≤ j → P j) → (j : ℕ) → j < columns → P j
  each_column P columns before taken free past j inside =
      elim (cases_lt j first) [
        | inl less ↦ before j less
        | inr more ↦ elim (cases_lt j (first + 64)) [
          | inl within ↦
              let own : first + (j - first) ≡ j = omega (arith, more) in
              subst P own (in_it (j - first) (omega (arith, within, more)))
          | inr behind ↦ past j inside behind
        ]
      ]
    where
      in_it : (b : ℕ) → b < 64 → P (first + b)
      in_it b inside =
          elim (cases_lt (place b) rows) [
            | inl is ↦ taken b inside is
            | inr is ↦ free b inside is
          ]

  -- it is a bit
  module _ (bits : (i j : ℕ) → A i j < 2) where
    row_bit : (k j : ℕ) → entry_within rows A k j < 2
    row_bit k j =
        elim (cases_lt k rows) [
          | inl inside ↦ small_as (entry_within rows A k j) (A k j) (entry-inside rows A k j inside) (bits k j)
          | inr past ↦ small_as (entry_within rows A k j) 0 (entry-none rows A k j past) (omega arith)
        ]

    pending-lt : (i j : ℕ) → pending_sum rows first place A i j < 2
    pending-lt i j =
        sum_of_bits (λ b. A i (first + b) * entry_within rows A (place b) j) 64
        (λ b. bit_product (A i (first + b)) (entry_within rows A (place b) j) (bits i (first + b)) (row_bit (place b) j))

    identity-lt : (k i : ℕ) → identity_entry k i < 2
    identity-lt k i =
        elim (cases_eq k i) [
          | inl same ↦ small_as (identity_entry k i) 1 (identity-same k i same) (omega arith)
          | inr other ↦ small_as (identity_entry k i) 0 (identity-other k i other) (omega arith)
        ]

    pub present-lt : (i j : ℕ) → present_entry rows first place A i j < 2
    present-lt i j =
        each_column (λ n. present_entry rows first place A i n < 2) (j + 1)
        (λ n before. small_as (present_entry rows first place A i n) (A i n) (present-before i n before) (bits i n))
        (λ b inside taken.
        small_as (present_entry rows first place A i (first + b)) (identity_entry (place b) i) (present-taken i b inside taken) (identity-lt (place b) i))
        (λ b inside free.
        small_as (present_entry rows first place A i (first + b)) (A i (first + b)) (present-free i b inside free) (bits i (first + b)))
        (λ n inside past.
        small_as (present_entry rows first place A i n) (bit_xor (A i n) (pending_sum rows first place A i n)) (present-behind i n past)
        (xor_lt 1 (A i n) (pending_sum rows first place A i n) (bits i n) (pending-lt i n)))
        j (omega arith)

-- where no column has a pivot the matrix stands for itself
pub present-none : (rows first : ℕ) (place : ℕ → ℕ) (A : ℕ → ℕ → ℕ) → ((b : ℕ) → b < 64 → rows ≤ place b)
    → (i j : ℕ) → present_entry rows first place A i j ≡ A i j
present-none rows first place A free i j =
    each_column rows first place A (λ n. present_entry rows first place A i n ≡ A i n) (j + 1)
    (λ n before. present-before rows first place A i n before)
    (λ b inside taken. let none = free b inside in absurd (omega (arith, none, taken)))
    (λ b inside none. present-free rows first place A i b inside none)
    (λ n inside past. present-behind rows first place A i n past ∙ ap (bit_xor (A i n)) (nothing n) ∙ xor_zero_r (A i n))
    j (omega arith)
  where
    times_nothing : (x : ℕ) → x * 0 ≡ 0
    times_nothing x = omega arith

    nothing : (n : ℕ) → pending_sum rows first place A i n ≡ 0
    nothing n =
        sum_below-same (λ b. A i (first + b) * entry_within rows A (place b) n) (λ b. 0) 64
        (λ b inside. ap (λ (x : ℕ). A i (first + b) * x) (entry-none rows A (place b) n (free b inside)) ∙ times_nothing (A i (first + b)))
        ∙ sum_zero (λ b. 0) 64 (λ b. refl)

-- so does a column without a pivot
pub present-stored : (rows column : ℕ) (place : ℕ → ℕ) (A : ℕ → ℕ → ℕ) → rows ≤ place (column % 64) → (i : ℕ)
    → present_entry rows (64 * (column / 64)) place A i column ≡ A i column
present-stored rows column place A free i =
    let split : 64 * (column / 64) + column % 64 ≡ column = omega arith in
    subst (λ (j : ℕ). present_entry rows (64 * (column / 64)) place A i j ≡ A i j) split
    (present-free rows (64 * (column / 64)) place A i (column % 64) (omega arith) free)

-- at first no column has a pivot
pub places-start : (rows rank bit : ℕ) (place : ℕ → ℕ) → ((b : ℕ) → b < 64 → place b ≡ rows) → ArePivotPlaces rows rank bit place
places-start rows rank bit place none =
    record {
      taken = λ b inside is. let e = none b inside in absurd (omega (arith, e, is));
      free = λ b past inside. let e = none b inside in omega (arith, e);
    }

-- one column more, without a pivot
pub places-on : (rows rank bit : ℕ) (place : ℕ → ℕ) → ArePivotPlaces rows rank bit place → ArePivotPlaces rows rank (bit + 1) place
places-on rows rank bit place has =
    record { taken = has.taken; free = λ b past inside. has.free b (omega (arith, past)) inside }

-- entries that are the same in a row, and in the rows of pivots, stand for the same
module _ (rows first columns : ℕ) (place : ℕ → ℕ) (A B : ℕ → ℕ → ℕ) (within : first + 64 ≤ columns)
    (pivots : (b j : ℕ) → b < 64 → place b < rows → j < columns → B (place b) j ≡ A (place b) j) where
  -- rows of pivots stay
  pub pivot-kept : (b j : ℕ) → b < 64 → j < columns → entry_within rows B (place b) j ≡ entry_within rows A (place b) j
  pivot-kept b j inside fits =
      elim (cases_lt (place b) rows) [
        | inl taken ↦ entry-inside rows B (place b) j taken ∙ pivots b j inside taken fits ∙ sym (entry-inside rows A (place b) j taken)
        | inr free ↦ entry-none rows B (place b) j free ∙ sym (entry-none rows A (place b) j free)
      ]

  pub present-same : (i : ℕ) → ((j : ℕ) → j < columns → B i j ≡ A i j) → (j : ℕ) → j < columns
      → present_entry rows first place B i j ≡ present_entry rows first place A i j
  present-same i same =
      each_column rows first place A (λ n. present_entry rows first place B i n ≡ present_entry rows first place A i n) columns
      (λ n before. present-before rows first place B i n before ∙ same n (omega (arith, before, within))
      ∙ sym (present-before rows first place A i n before))
      (λ b inside taken. present-taken rows first place B i b inside taken ∙ sym (present-taken rows first place A i b inside taken))
      (λ b inside free. present-free rows first place B i b inside free ∙ same (first + b) (omega (arith, inside, within))
      ∙ sym (present-free rows first place A i b inside free))
      (λ n fits past. present-behind rows first place B i n past
      ∙ ap₂ bit_xor (same n fits)
      (sum_below-same (λ b. B i (first + b) * entry_within rows B (place b) n) (λ b. A i (first + b) * entry_within rows A (place b) n) 64
      (λ b inside. ap₂ (λ (x y : ℕ). x * y) (same (first + b) (omega (arith, inside, within))) (pivot-kept b n inside fits)))
      ∙ sym (present-behind rows first place A i n past))

-- ---- a row is added to another, in all columns as they are stored

module _ (rows first columns rank row : ℕ) (place : ℕ → ℕ) (A B : ℕ → ℕ → ℕ) (bits : (i j : ℕ) → A i j < 2) (within : first + 64 ≤ columns)
    (apart : (b : ℕ) → b < 64 → place b < rows → (place b ≢ rank) × (place b ≢ row))
    (adds : (j : ℕ) → j < columns → B rank j ≡ bit_xor (A rank j) (A row j))
    (rest : (i j : ℕ) → i ≢ rank → j < columns → B i j ≡ A i j) where
  pivots : (b j : ℕ) → b < 64 → place b < rows → j < columns → B (place b) j ≡ A (place b) j
  pivots b j inside taken fits = rest (place b) j (apart b inside taken).0 fits

  -- the row becomes the sum of what both stand for
  pub joined-sum : (j : ℕ) → j < columns
      → present_entry rows first place B rank j ≡ bit_xor (present_entry rows first place A rank j) (present_entry rows first place A row j)
  joined-sum =
      each_column rows first place A
      (λ j. present_entry rows first place B rank j ≡ bit_xor (present_entry rows first place A rank j) (present_entry rows first place A row j))
      columns
      (λ j before. present-before rows first place B rank j before ∙ adds j (omega (arith, before, within))
      ∙ sym (ap₂ bit_xor (present-before rows first place A rank j before) (present-before rows first place A row j before)))
      (λ b inside taken.
      present-taken rows first place B rank b inside taken ∙ identity-other (place b) rank (apart b inside taken).0
      ∙ sym (ap₂ bit_xor (present-taken rows first place A rank b inside taken ∙ identity-other (place b) rank (apart b inside taken).0)
      (present-taken rows first place A row b inside taken ∙ identity-other (place b) row (apart b inside taken).1) ∙ xor_zero_r 0))
      (λ b inside free. present-free rows first place B rank b inside free ∙ adds (first + b) (omega (arith, inside, within))
      ∙ sym (ap₂ bit_xor (present-free rows first place A rank b inside free) (present-free rows first place A row b inside free)))
      (λ j fits past. present-behind rows first place B rank j past ∙ ap₂ bit_xor (adds j fits) (sums j fits)
      ∙ xor_exchange (A rank j) (A row j) (pending_sum rows first place A rank j) (pending_sum rows first place A row j)
      ∙ sym (ap₂ bit_xor (present-behind rows first place A rank j past) (present-behind rows first place A row j past)))
    where
      sums : (j : ℕ) → j < columns → pending_sum rows first place B rank j
          ≡ bit_xor (pending_sum rows first place A rank j) (pending_sum rows first place A row j)
      sums j fits =
          sum_below-same (λ b. B rank (first + b) * entry_within rows B (place b) j)
          (λ b. bit_xor (A rank (first + b) * entry_within rows A (place b) j) (A row (first + b) * entry_within rows A (place b) j)) 64
          (λ b inside.
          ap₂ (λ (x y : ℕ). x * y) (adds (first + b) (omega (arith, inside, within)))
          (pivot-kept rows first columns place A B within pivots b j inside fits)
          ∙ bit_sum (entry_within rows A (place b) j) (A rank (first + b)) (bits rank (first + b)) (A row (first + b)) (bits row (first + b)))
          ∙ sum_of_sums (λ b. A rank (first + b) * entry_within rows A (place b) j) (λ b. A row (first + b) * entry_within rows A (place b) j) 64

-- ---- a pivot is taken

-- In the strip the row of the pivot is added to the rows that are 1 in its column, but not in that column: there each row has noted what it
-- is to have added, and the row of the pivot itself nothing.
module _ (rows first columns rank bit : ℕ) (place next : ℕ → ℕ) (A B : ℕ → ℕ → ℕ) (bits : (i j : ℕ) → A i j < 2)
    (within : first + 64 ≤ columns) (rank_within : rank < rows) (bit_within : bit < 64)
    (next_own : next bit ≡ rank) (next_other : (b : ℕ) → b ≢ bit → next b ≡ place b)
    (free : rows ≤ place bit) (apart : (b : ℕ) → b < 64 → place b < rows → place b ≢ rank)
    (zeros : (j : ℕ) → j < first → A rank j ≡ 0) (one : A rank (first + bit) ≡ 1)
    (own : (b : ℕ) → b < 64 → b ≢ bit → B rank (first + b) ≡ A rank (first + b)) (own_bit : B rank (first + bit) ≡ 0)
    (others : (i b : ℕ) → i < rows → i ≢ rank → b < 64 → b ≢ bit
    → B i (first + b) ≡ bit_xor (A i (first + b)) (A i (first + bit) * A rank (first + b)))
    (others_bit : (i : ℕ) → i < rows → i ≢ rank → B i (first + bit) ≡ A i (first + bit))
    (outside : (i j : ℕ) → i < rows → j < columns → (j < first) ⊎ (first + 64 ≤ j) → B i j ≡ A i j) where
  abbrev before_it : ℕ → ℕ → ℕ
  before_it = present_entry rows first place A

  abbrev after_it : ℕ → ℕ → ℕ
  after_it = present_entry rows first next B

  times_nothing : (x : ℕ) → x * 0 ≡ 0
  times_nothing x = omega arith

  times_once : (x : ℕ) → x * 1 ≡ x
  times_once x = omega arith

  -- the bit of a row in the column of the pivot
  bit_before : (i : ℕ) → before_it i (first + bit) ≡ A i (first + bit)
  bit_before i = present-free rows first place A i bit bit_within free

  next_taken : next bit < rows
  next_taken = omega (arith, next_own, rank_within)

  bit_after : (i : ℕ) → after_it i (first + bit) ≡ identity_entry rank i
  bit_after i =
      present-taken rows first next B i bit bit_within next_taken ∙ ap (λ (k : ℕ). identity_entry k i) next_own

  -- rows of pivots stay behind the strip
  pivot-stays : (b j : ℕ) → b < 64 → b ≢ bit → j < columns → first + 64 ≤ j → entry_within rows B (next b) j ≡ entry_within rows A (place b) j
  pivot-stays b j inside other fits past =
      ap (λ (k : ℕ). entry_within rows B k j) (next_other b other)
      ∙ elim (cases_lt (place b) rows) [
        | inl taken ↦
            entry-inside rows B (place b) j taken ∙ outside (place b) j taken fits (inr past) ∙ sym (entry-inside rows A (place b) j taken)
        | inr none ↦ entry-none rows B (place b) j none ∙ sym (entry-none rows A (place b) j none)
      ]

  pivot-new : (j : ℕ) → j < columns → first + 64 ≤ j → entry_within rows B (next bit) j ≡ A rank j
  pivot-new j fits past =
      ap (λ (k : ℕ). entry_within rows B k j) next_own ∙ entry-inside rows B rank j rank_within ∙ outside rank j rank_within fits (inr past)

  pivot-none : (j : ℕ) → entry_within rows A (place bit) j ≡ 0
  pivot-none j = entry-none rows A (place bit) j free

  -- the row of the pivot stands for what it did
  rank_sum : (j : ℕ) → j < columns → first + 64 ≤ j → pending_sum rows first next B rank j ≡ pending_sum rows first place A rank j
  rank_sum j fits past =
      sum_below-same (λ b. B rank (first + b) * entry_within rows B (next b) j) (λ b. A rank (first + b) * entry_within rows A (place b) j) 64
      (λ b inside. elim (cases_eq b bit) [
        | inl same ↦ subst (λ (c : ℕ). B rank (first + c) * entry_within rows B (next c) j ≡ A rank (first + c) * entry_within rows A (place c) j)
            (sym same)
            (ap (λ (x : ℕ). x * entry_within rows B (next bit) j) own_bit ∙ zero-mul (entry_within rows B (next bit) j)
            ∙ sym (ap (λ (x : ℕ). A rank (first + bit) * x) (pivot-none j) ∙ times_nothing (A rank (first + bit))))
        | inr other ↦ ap₂ (λ (x y : ℕ). x * y) (own b inside other) (pivot-stays b j inside other fits past)
      ])

  pub pivot-row : (j : ℕ) → j < columns → after_it rank j ≡ before_it rank j
  pivot-row =
      each_column rows first place A (λ j. after_it rank j ≡ before_it rank j) columns
      (λ j before. present-before rows first next B rank j before ∙ outside rank j rank_within (omega (arith, before, within)) (inl before)
      ∙ sym (present-before rows first place A rank j before))
      (λ b inside taken.
      let differs : b ≢ bit = λ e. clash b e taken in
      present-taken rows first next B rank b inside (rw (next_other b differs) taken)
      ∙ ap (λ (k : ℕ). identity_entry k rank) (next_other b differs) ∙ sym (present-taken rows first place A rank b inside taken))
      (λ b inside none. elim (cases_eq b bit) [
        | inl same ↦ subst (λ (c : ℕ). after_it rank (first + c) ≡ before_it rank (first + c)) (sym same)
            (bit_after rank ∙ identity-same rank rank refl ∙ sym (bit_before rank ∙ one))
        | inr other ↦
            present-free rows first next B rank b inside (rw (next_other b other) none) ∙ own b inside other
            ∙ sym (present-free rows first place A rank b inside none)
      ])
      (λ j fits past. present-behind rows first next B rank j past
      ∙ ap₂ bit_xor (outside rank j rank_within fits (inr past)) (rank_sum j fits past) ∙ sym (present-behind rows first place A rank j past))
    where
      clash : (b : ℕ) → b ≡ bit → place b < rows → ⊥
      clash b same taken = let e = ap place same in omega (arith, e, taken, free)

  -- another one has that added, if it was 1 in the column
  module _ (i : ℕ) (inside_rows : i < rows) (differs : i ≢ rank) where
    abbrev s : ℕ
    s = A i (first + bit)

    abbrev term : ℕ → ℕ → ℕ → ℕ
    term k j b = A k (first + b) * entry_within rows A (place b) j

    no_term : (k j : ℕ) → term k j bit ≡ 0
    no_term k j = ap (λ (x : ℕ). A k (first + bit) * x) (pivot-none j) ∙ times_nothing (A k (first + bit))

    swap_factors : (a b c : ℕ) → a < 2 → a * b * c ≡ a * (b * c)
    swap_factors a b c small =
        two_cases (λ x. x * b * c ≡ x * (b * c)) (ap (λ (y : ℕ). y * c) (zero-mul b) ∙ zero-mul c ∙ sym (zero-mul (b * c)))
        (ap (λ (y : ℕ). y * c) (one-mul b) ∙ sym (one-mul (b * c))) a small

    other_sum : (j : ℕ) → j < columns → first + 64 ≤ j → pending_sum rows first next B i j
        ≡ bit_xor (bit_xor (pending_sum rows first place A i j) (s * pending_sum rows first place A rank j)) (s * A rank j)
    other_sum j fits past =
        sum_with_one (λ b. bit_xor (term i j b) (s * term rank j b)) (λ b. B i (first + b) * entry_within rows B (next b) j) bit (s * A rank j) 64
        bit_within
        (λ b inside other.
        ap₂ (λ (x y : ℕ). x * y) (others i b inside_rows differs inside other) (pivot-stays b j inside other fits past)
        ∙ bit_sum (entry_within rows A (place b) j) (A i (first + b)) (bits i (first + b)) (s * A rank (first + b))
        (bit_product s (A rank (first + b)) (bits i (first + bit)) (bits rank (first + b)))
        ∙ ap (bit_xor (term i j b)) (swap_factors s (A rank (first + b)) (entry_within rows A (place b) j) (bits i (first + bit))))
        (ap₂ (λ (x y : ℕ). x * y) (others_bit i inside_rows differs) (pivot-new j fits past)
        ∙ sym (ap (λ (x : ℕ). bit_xor x (s * A rank j))
        (ap₂ bit_xor (no_term i j) (ap (λ (x : ℕ). s * x) (no_term rank j) ∙ times_nothing s) ∙ xor_zero_r 0)
        ∙ xor_comm 0 (s * A rank j) ∙ xor_zero_r (s * A rank j)))
        ∙ ap (λ (x : ℕ). bit_xor x (s * A rank j))
        (sum_of_sums (term i j) (λ b. s * term rank j b) 64
        ∙ ap (bit_xor (pending_sum rows first place A i j)) (sum_multiple s (term rank j) 64 (bits i (first + bit))))

    reorder : (a p q r : ℕ) → bit_xor a (bit_xor (bit_xor p q) r) ≡ bit_xor (bit_xor a p) (bit_xor r q)
    reorder a p q r = ap (bit_xor a) (xor_assoc p q r ∙ ap (bit_xor p) (xor_comm q r)) ∙ sym (xor_assoc a p (bit_xor r q))

    pub other-row : (j : ℕ) → j < columns → after_it i j ≡ bit_xor (before_it i j) (s * before_it rank j)
    other-row =
        each_column rows first place A (λ j. after_it i j ≡ bit_xor (before_it i j) (s * before_it rank j)) columns
        (λ j before. present-before rows first next B i j before ∙ outside i j inside_rows (omega (arith, before, within)) (inl before)
        ∙ sym (present-before rows first place A i j before) ∙ sym (xor_zero_r (before_it i j))
        ∙ ap (bit_xor (before_it i j))
        (sym (ap (λ (x : ℕ). s * x) (present-before rows first place A rank j before ∙ zeros j before) ∙ times_nothing s)))
        (λ b inside taken.
        let other : b ≢ bit = λ e. clash b e taken in
        present-taken rows first next B i b inside (rw (next_other b other) taken)
        ∙ ap (λ (k : ℕ). identity_entry k i) (next_other b other) ∙ sym (present-taken rows first place A i b inside taken)
        ∙ sym (xor_zero_r (before_it i (first + b)))
        ∙ ap (bit_xor (before_it i (first + b)))
        (sym (ap (λ (x : ℕ). s * x)
        (present-taken rows first place A rank b inside taken ∙ identity-other (place b) rank (apart b inside taken)) ∙ times_nothing s)))
        (λ b inside none. elim (cases_eq b bit) [
          | inl same ↦ subst (λ (c : ℕ). after_it i (first + c) ≡ bit_xor (before_it i (first + c)) (s * before_it rank (first + c))) (sym same)
              (bit_after i ∙ identity-other rank i (λ e. differs (sym e))
              ∙ sym (ap₂ bit_xor (bit_before i) (ap (λ (x : ℕ). s * x) (bit_before rank ∙ one) ∙ times_once s) ∙ xor_self s))
          | inr other ↦
              present-free rows first next B i b inside (rw (next_other b other) none) ∙ others i b inside_rows differs inside other
              ∙ sym (ap₂ bit_xor (present-free rows first place A i b inside none)
              (ap (λ (x : ℕ). s * x) (present-free rows first place A rank b inside none)))
        ])
        (λ j fits past. present-behind rows first next B i j past
        ∙ ap₂ bit_xor (outside i j inside_rows fits (inr past)) (other_sum j fits past)
        ∙ reorder (A i j) (pending_sum rows first place A i j) (s * pending_sum rows first place A rank j) (s * A rank j)
        ∙ sym (ap₂ bit_xor (present-behind rows first place A i j past)
        (ap (λ (x : ℕ). s * x) (present-behind rows first place A rank j past)
        ∙ bit_over_sum s (A rank j) (pending_sum rows first place A rank j) (bits i (first + bit)))))
      where
        clash : (b : ℕ) → b ≡ bit → place b < rows → ⊥
        clash b same taken = let e = ap place same in omega (arith, e, taken, free)

  -- so that the column is cleared by multiples of the row
  pub pivot-clears : (i j : ℕ) → i < rows → j < columns → after_it i j ≡ cleared_entry (tower_mul 0) rank (first + bit) before_it i j
  pivot-clears i j inside fits =
      elim (cases_eq i rank) [
        | inl same ↦ subst (λ (k : ℕ). after_it k j ≡ before_it k j) (sym same) (pivot-row j fits)
            ∙ sym (cleared-own (tower_mul 0) rank (first + bit) before_it i j same)
        | inr other ↦ other-row i inside other j fits
            ∙ ap (bit_xor (before_it i j))
            (sym (bit_times (before_it i (first + bit)) (before_it rank j) (present-lt rows first place A bits i (first + bit))
            (present-lt rows first place A bits rank j)
            ∙ ap (λ (x : ℕ). x * before_it rank j) (bit_before i)))
            ∙ sym (cleared-other (tower_mul 0) rank (first + bit) before_it i j other)
      ]
