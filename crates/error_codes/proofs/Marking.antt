-- Marks that are set one after the other, and how many there are.
use Rattle.std.proofs.Common.{◌≡◌, ◌≢◌, ◌⊎◌, inl, inr, ℕ, zero, suc, ◌+◌, ◌<◌, ◌≤◌, List, length, set, drop}
use Rattle.std.proofs.Common.{replicate, Bool, true, false, cond, refl, sym, ◌∙◌, ap, arith, below_more}
use Rattle.std.specs.Prelude.{nat_eq, not, slice_index, ◌||◌, ◌&&◌}
use Rattle.std.proofs.lemmas.Bool.{cases_lt}
use Rattle.std.proofs.lemmas.Bool.Decides.{eqb_tells}
use Rattle.std.proofs.lemmas.List.{at_drop_all, at_drop_more, get_or-replicate, get_or-set_other, get_or-set_same}
use Rattle.std.proofs.lemmas.List.{get_or_past, length-replicate, length-set}
use Rattle.field_slices.specs.Marks.{marked_below, total}
use Rattle.error_codes.specs.Correcting.{is_listed}
use Rattle.error_codes.specs.Filling.{is_marked, is_other}

-- ---- a row of marks that is written from its first place on

abbrev pub IsWritten : ℕ → (ℕ → Bool) → (ℕ → Bool) → ℕ → List Bool → Type 0
IsWritten room value before i marks =
    (length marks ≡ room) × ((j : ℕ) → j < i → is_marked marks j ≡ value j)
    × ((j : ℕ) → i ≤ j → is_marked marks j ≡ before j)

-- a mark is set or taken away
pub mark-set : (room : ℕ) (value before : ℕ → Bool) (i : ℕ) (b : Bool) (marks : List Bool) → IsWritten room value before i marks
    → i < room → b ≡ value i → IsWritten room value before (i + 1) (set marks i b)
mark-set room value before i b marks written inside is =
    let long = written.0 in (
      length-set marks i b ∙ long,
      below_more (λ j. is_marked (set marks i b) j ≡ value j) i
          (λ j below. get_or-set_other marks i j b false (λ e. absurd (omega (arith, e, below)))
          ∙ written.1 j below)
          (get_or-set_same marks i b false (omega (arith, long, inside)) ∙ is),
      λ j above. get_or-set_other marks i j b false (λ e. absurd (omega (arith, e, above)))
          ∙ written.2 j (omega (arith, above)),
    )

-- a mark is left
pub mark-left : (room : ℕ) (value before : ℕ → Bool) (i : ℕ) (marks : List Bool) → IsWritten room value before i marks
    → value i ≡ before i → IsWritten room value before (i + 1) marks
mark-left room value before i marks written is = (
  written.0,
  below_more (λ j. is_marked marks j ≡ value j) i written.1 (written.2 i (omega arith) ∙ sym is),
  λ j above. written.2 j (omega (arith, above)),
)

-- ---- places of a list

module _ (room : ℕ) (places : List ℕ) (k : ℕ) (marks : List Bool) (inside : k < length places) (place : ℕ)
    (place_is : place ≡ slice_index places k)
    (before : (i : ℕ) → i < room → (is_marked marks i || is_listed (drop k places) i) ≡ is_listed places i) where
  next : (i : ℕ) → is_listed (drop k places) i ≡ (nat_eq place i || is_listed (drop (k + 1) places) i)
  next i =
      at_drop_more (λ (ps : List ℕ). is_listed ps i) places k 0 inside
      ∙ ap (λ (p : ℕ). nat_eq p i || is_listed (drop (k + 1) places) i) (sym place_is)

  same : (a b c d : Bool) → (a || (b || c)) ≡ d → b ≡ false → (a || c) ≡ d
  same true b c d is none = is
  same false true c d is none = absurd (cc)
  same false false c d is none = is

  set-same : (a b c d : Bool) → (a || (b || c)) ≡ d → b ≡ true → (true || c) ≡ d
  set-same true b c d is one = is
  set-same false true c d is one = is
  set-same false false c d is one = absurd (cc)

  -- a place beyond the marks
  pub place-beyond : room ≤ place
      → (i : ℕ) → i < room → (is_marked marks i || is_listed (drop (k + 1) places) i) ≡ is_listed places i
  place-beyond beyond i below =
      same (is_marked marks i) (nat_eq place i) (is_listed (drop (k + 1) places) i) (is_listed places i)
      (ap (λ (b : Bool). is_marked marks i || b) (sym (next i)) ∙ before i below)
      (elim (eqb_tells place i) [
        | inl equal ↦ absurd (omega (arith, equal.1, beyond, below))
        | inr differs ↦ differs.0
      ])

  -- a place that is marked
  pub place-marked : length marks ≡ room → place < room
      → (i : ℕ) → i < room
      → (is_marked (set marks place true) i || is_listed (drop (k + 1) places) i) ≡ is_listed places i
  place-marked long within i below =
      elim (eqb_tells place i) [
        | inl equal ↦
            ap (λ (b : Bool). b || is_listed (drop (k + 1) places) i)
            (ap (is_marked (set marks place true)) (sym equal.1)
            ∙ get_or-set_same marks place true false (omega (arith, long, within)))
            ∙ set-same (is_marked marks i) (nat_eq place i) (is_listed (drop (k + 1) places) i) (is_listed places i)
            (ap (λ (b : Bool). is_marked marks i || b) (sym (next i)) ∙ before i below) equal.0
        | inr differs ↦
            ap (λ (b : Bool). b || is_listed (drop (k + 1) places) i)
            (get_or-set_other marks place i true false (λ e. differs.1 (sym e)))
            ∙ same (is_marked marks i) (nat_eq place i) (is_listed (drop (k + 1) places) i) (is_listed places i)
            (ap (λ (b : Bool). is_marked marks i || b) (sym (next i)) ∙ before i below) differs.0
      ]

-- at the end of the list
pub places-end : (places : List ℕ) (k i : ℕ) (marks : List Bool) → length places ≤ k
    → (is_marked marks i || is_listed (drop k places) i) ≡ is_listed places i → is_marked marks i ≡ is_listed places i
places-end places k i marks end is =
    sym (none (is_marked marks i))
    ∙ ap (λ (b : Bool). is_marked marks i || b) (sym (at_drop_all (λ (ps : List ℕ). is_listed ps i) places k end))
    ∙ is
  where
    none : (b : Bool) → (b || false) ≡ b
    none true = refl
    none false = refl

-- ---- how many

pub count-more : (marked : ℕ → Bool) (i count : ℕ) → marked i ≡ true → count ≡ marked_below marked i
    → count + 1 ≡ marked_below marked (i + 1)
unfolding total
count-more marked i count is count_is =
    let last : cond (marked i) (suc zero) zero ≡ suc zero = ap (λ (b : Bool). cond b (suc zero) zero) is in
    let sum : marked_below marked i + cond (marked i) (suc zero) zero ≡ marked_below marked (i + 1) =
    ap (marked_below marked) next in
    omega (arith, last, sum, count_is)
  where
    next : suc i ≡ i + 1
    next = omega arith

pub count-same : (marked : ℕ → Bool) (i count : ℕ) → marked i ≡ false → count ≡ marked_below marked i
    → count ≡ marked_below marked (i + 1)
unfolding total
count-same marked i count is count_is =
    let last : cond (marked i) (suc zero) zero ≡ zero = ap (λ (b : Bool). cond b (suc zero) zero) is in
    let sum : marked_below marked i + cond (marked i) (suc zero) zero ≡ marked_below marked (i + 1) =
    ap (marked_below marked) next in
    omega (arith, last, sum, count_is)
  where
    next : suc i ≡ i + 1
    next = omega arith

-- a mark is one of those that are counted
pub count-below : (marked : ℕ → Bool) (i n : ℕ) → i < n → marked i ≡ true
    → marked_below marked i + 1 ≤ marked_below marked n
unfolding total
count-below marked i zero below is = absurd (omega (arith, below))
count-below marked i (suc n) below is = pick (eqb_tells i n) (λ less. count-below marked i n less is)
  where
    earlier : (i n : ℕ) → i < suc n → (i ≡ n → ⊥) → i < n
    earlier i n below other = omega (arith, below, other)

    pick : ((nat_eq i n ≡ true) × (i ≡ n)) ⊎ ((nat_eq i n ≡ false) × (i ≡ n → ⊥))
        → (i < n → marked_below marked i + 1 ≤ marked_below marked n)
        → marked_below marked i + 1 ≤ marked_below marked n + cond (marked n) 1 0
    pick (inl same) before =
        let last : cond (marked n) (suc zero) zero ≡ suc zero =
        ap (λ (b : Bool). cond b (suc zero) zero) (ap marked (sym same.1) ∙ is) in
        let equal : marked_below marked i ≡ marked_below marked n = ap (marked_below marked) same.1 in
        omega (arith, last, equal)
    pick (inr other) before = let less = before (earlier i n below other.1) in omega (arith, less)

-- a place beyond all is no place to leave out
pub other-all : (marks : List Bool) (n i : ℕ) → i < n → is_other marks n i ≡ is_marked marks i
other-all marks n i below = kept (is_marked marks i) (nat_eq i n) (elim (eqb_tells i n) [
  | inl same ↦ absurd (omega (arith, below, same.1))
  | inr other ↦ other.0
])
  where
    kept : (a b : Bool) → b ≡ false → (a && not b) ≡ a
    kept true true is = absurd (cc)
    kept true false is = refl
    kept false b is = refl

-- a row without marks
pub none-marked : (room j : ℕ) → is_marked (replicate {A = Bool} room false) j ≡ false
none-marked room j =
    elim (cases_lt j room) [
      | inl below ↦ get_or-replicate room j false false below
      | inr past ↦ get_or_past (replicate {A = Bool} room false) j false
          (let long = length-replicate {A = Bool} room false in omega (arith, long, past))
    ]

pub count-none : (marked : ℕ → Bool) → marked_below marked 0 ≡ 0
unfolding total
count-none marked = refl

-- ---- a mark by two tests

pub other-marked : (marks : List Bool) (skipped i : ℕ) → is_marked marks i ≡ true → i ≢ skipped
    → is_other marks skipped i ≡ true
other-marked marks skipped i is other = both (is_marked marks i) (nat_eq i skipped) is (elim (eqb_tells i skipped) [
  | inl same ↦ absurd (other same.1)
  | inr differs ↦ differs.0
])
  where
    both : (a b : Bool) → a ≡ true → b ≡ false → (a && not b) ≡ true
    both true true a_is b_is = absurd (cc)
    both true false a_is b_is = refl
    both false b a_is b_is = absurd (cc)

pub other-own : (marks : List Bool) (skipped i : ℕ) → i ≡ skipped → is_other marks skipped i ≡ false
other-own marks skipped i same = none (is_marked marks i) (nat_eq i skipped) (elim (eqb_tells i skipped) [
  | inl equal ↦ equal.0
  | inr differs ↦ absurd (differs.1 same)
])
  where
    none : (a b : Bool) → b ≡ true → (a && not b) ≡ false
    none true true is = refl
    none true false is = absurd (cc)
    none false b is = refl

pub other-free : (marks : List Bool) (skipped i : ℕ) → is_marked marks i ≡ false → is_other marks skipped i ≡ false
other-free marks skipped i is = none (is_marked marks i) (nat_eq i skipped) is
  where
    none : (a b : Bool) → a ≡ false → (a && not b) ≡ false
    none true b is = absurd (cc)
    none false b is = refl

-- a mark for a value that is 0
pub root-marked : (a : Bool) (v x : ℕ) → v ≡ x → v ≡ 0 → true ≡ (a || nat_eq x 0)
root-marked a v x same zero_is = one a (nat_eq x 0) (elim (eqb_tells x 0) [
  | inl is ↦ is.0
  | inr differs ↦ absurd (differs.1 (sym same ∙ zero_is))
])
  where
    one : (a b : Bool) → b ≡ true → true ≡ (a || b)
    one true b is = refl
    one false b is = sym is

pub root-left : (a : Bool) (v x : ℕ) → v ≡ x → v ≢ 0 → (a || nat_eq x 0) ≡ a
root-left a v x same other = none a (nat_eq x 0) (elim (eqb_tells x 0) [
  | inl is ↦ absurd (other (same ∙ is.1))
  | inr differs ↦ differs.0
])
  where
    none : (a b : Bool) → b ≡ false → (a || b) ≡ a
    none true b is = refl
    none false b is = is

-- a mark that is not left out
pub kept-marked : (out mark : Bool) → out ≡ false → mark ≡ true → (not out && mark) ≡ true
kept-marked true mark out_is is = absurd (cc)
kept-marked false mark out_is is = is

pub kept-out : (out mark : Bool) → out ≡ true → (not out && mark) ≡ false
kept-out true mark out_is = refl
kept-out false mark out_is = absurd (cc)

pub kept-free : (out mark : Bool) → mark ≡ false → (not out && mark) ≡ false
kept-free true mark is = refl
kept-free false mark is = is
