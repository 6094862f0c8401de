-- Lists of elements whose places are changed from the first on, one after the other or in blocks.
use Rattle.std.proofs.Common.{◌≡◌, ◌⊎◌, inl, inr, ℕ, ◌+◌, ◌-◌, ◌<◌, ◌≤◌, List, length, map, drop, set, get_or, refl, sym, subst, ◌∙◌, arith, below_more}
use Rattle.std.specs.Prelude.{slice_index}
use Rattle.std.specs.Simd.Lanes.{zip2}
use Rattle.std.proofs.lemmas.List.{ext_get_or, get_or-map, length-drop, length-map, length-set}
use Rattle.std.proofs.lemmas.Bool.{cases_lt}
use Rattle.std.proofs.lemmas.Simd.{get_or-zip2, length-zip2}
use borrow.Rule.Slice.PartMut.{mid_of, put_mid, same_len_mid}
use lib.Seq.{length-take-le}
use native.Mathlib.Nat.{le_refl}
use Rattle.field_base.proofs.Places.{number-at, number-set_same, number-set_other}
use Rattle.field_element.specs.Changes.{AreChanged}
use Rattle.additive_transforms.proofs.Written.{read_before, read_behind, read_inside, read_lent}

-- the places before n are related to what they were, and the others are as they were
pub record Changed {A : Type 0} (repr : A → ℕ) (relates : ℕ → ℕ → ℕ → Type 0) (old now : List A) (n : ℕ) : Type 0 where
  pub long : length now ≡ length old
  pub done : (k : ℕ) → k < n → relates k (slice_index (map repr old) k) (slice_index (map repr now) k)
  pub rest : (k : ℕ) → n ≤ k → slice_index (map repr now) k ≡ slice_index (map repr old) k

module _ {A : Type 0} (repr : A → ℕ) (relates : ℕ → ℕ → ℕ → Type 0) (old : List A) where
  pub changed-none : Changed repr relates old old 0
  changed-none = record { long = refl; done = λ k below. absurd (omega (arith, below)); rest = λ k past. refl }

  -- an element more
  pub changed-written : (now : List A) (n : ℕ) (r : A) → n < length old → relates n (slice_index (map repr old) n) (repr r)
      → Changed repr relates old now n → Changed repr relates old (set now n r) (n + 1)
  changed-written now n r within given so_far =
      record {
        long = length-set now n r ∙ so_far.long;
        done = below_more (λ k. relates k (slice_index (map repr old) k) (slice_index (map repr (set now n r)) k)) n
            (λ k below. subst (relates k (slice_index (map repr old) k))
            (sym (number-set_other repr now n k r (λ e. absurd (omega (arith, e, below))))) (so_far.done k below))
            (subst (relates n (slice_index (map repr old) n)) (sym (number-set_same repr now n r inside)) given);
        rest = λ k past. number-set_other repr now n k r (λ e. absurd (omega (arith, e, past))) ∙ so_far.rest k (omega (arith, past));
      }
    where
      inside : n < length now
      inside = let long = so_far.long in omega (arith, long, within)

  -- by what is said of it as it was read
  pub changed-read : (now : List A) (n : ℕ) (x r : A) → n < length old → x ≡ get_or now n x → relates n (repr x) (repr r)
      → Changed repr relates old now n → Changed repr relates old (set now n r) (n + 1)
  changed-read now n x r within read given so_far =
      let long = so_far.long in
      let inside : n < length now = omega (arith, long, within) in
      changed-written now n r within
      (subst (λ (y : ℕ). relates n y (repr r)) (sym (number-at repr now n x inside read) ∙ so_far.rest n (le_refl n)) given) so_far

  -- a block more
  pub changed-block : (now part : List A) (start count next : ℕ) → next ≡ start + count → start + count ≤ length old
      → length part ≡ length (mid_of start count now)
      → ((k : ℕ) → k < length (mid_of start count now) → relates (start + k) (slice_index (map repr (mid_of start count now)) k) (slice_index (map repr part) k))
      → Changed repr relates old now start → Changed repr relates old (put_mid start count now part) next
  changed-block now part start count next behind room long given so_far =
      record {
        long = same_len_mid start count now part long ∙ so_far.long;
        done = λ k below. pick k below (cases_lt k start);
        rest = λ k past. read_behind repr start count now part inside (long ∙ lent) k (omega (arith, behind, past)) ∙ so_far.rest k (omega (arith, behind, past));
      }
    where
      inside : start + count ≤ length now
      inside = let same = so_far.long in omega (arith, same, room)

      lent : length (mid_of start count now) ≡ count
      lent = let left = length-drop start now in length-take-le count (drop start now) (omega (arith, left, inside))

      Holds : ℕ → Type 0
      Holds k = relates k (slice_index (map repr old) k) (slice_index (map repr (put_mid start count now part)) k)

      pick : (k : ℕ) → k < next → (k < start) ⊎ (start ≤ k) → Holds k
      pick k below (inl before) =
          subst (relates k (slice_index (map repr old) k)) (sym (read_before repr start count now part inside (long ∙ lent) k before)) (so_far.done k before)
      pick k below (inr from) =
          let at : start + (k - start) ≡ k = omega (arith, from) in
          let within : k - start < count = omega (arith, from, below, behind) in
          subst Holds at
          (subst (relates (start + (k - start)) (slice_index (map repr old) (start + (k - start))))
          (sym (read_inside repr start count now part inside (long ∙ lent) (k - start) within))
          (subst (λ (y : ℕ). relates (start + (k - start)) y (slice_index (map repr part) (k - start)))
          (read_lent repr start count now (k - start) within ∙ so_far.rest (start + (k - start)) (omega (arith, from)))
          (given (k - start) (subst (λ (n : ℕ). k - start < n) (sym lent) within))))

-- at the end all are changed
pub changed-all : {A : Type 0} (repr : A → ℕ) (relates : ℕ → ℕ → ℕ → Type 0) (old now : List A) (n : ℕ) → Changed repr relates old now n
    → length old ≤ n → AreChanged repr relates old now
changed-all repr relates old now n so_far all =
    record { long = so_far.long; results = λ k below. so_far.done k (omega (arith, below, all)) }

-- all are changed by a block that begins at place 0
pub changed-at_once : {A : Type 0} (repr : A → ℕ) (relates : ℕ → ℕ → ℕ → Type 0) (old now : List A)
    → AreChanged repr (λ (k : ℕ). relates (0 + k)) old now → AreChanged repr relates old now
changed-at_once repr relates old now are =
    record {
      long = are.long;
      results =
          λ k below.
          let place : 0 + k ≡ k = omega arith in
          subst (λ (n : ℕ). relates n (slice_index (map repr old) k) (slice_index (map repr now) k)) place (are.results k below);
    }

-- lists whose numbers are what is wanted at each place
module _ {A : Type 0} (repr : A → ℕ) (xs rs : List A) (long : length rs ≡ length xs) where
  -- by a map
  pub changed-map : (f : ℕ → ℕ) → ((k : ℕ) → k < length xs → slice_index (map repr rs) k ≡ f (slice_index (map repr xs) k))
      → map repr rs ≡ map f (map repr xs)
  changed-map f at =
      ext_get_or 0 (map repr rs) (map f (map repr xs)) (length-map rs repr ∙ long ∙ sym (length-map xs repr) ∙ sym (length-map (map repr xs) f))
      (λ k below. at k (within k below) ∙ sym (get_or-map f (map repr xs) k 0 0 (inside k below)))
    where
      within : (k : ℕ) → k < length (map repr rs) → k < length xs
      within k below = let same = length-map rs repr in omega (arith, same, long, below)

      inside : (k : ℕ) → k < length (map repr rs) → k < length (map repr xs)
      inside k below = let same = length-map xs repr in let less = within k below in omega (arith, same, less)

  -- by an operator on the numbers of two lists
  pub changed-zip : {B : Type 0} → (other : B → ℕ) (ys : List B) (f : ℕ → ℕ → ℕ) → length ys ≡ length xs
      → ((k : ℕ) → k < length xs → slice_index (map repr rs) k ≡ f (slice_index (map repr xs) k) (slice_index (map other ys) k))
      → map repr rs ≡ zip2 f (map repr xs) (map other ys)
  changed-zip {B} other ys f same at =
      ext_get_or 0 (map repr rs) (zip2 f (map repr xs) (map other ys))
      (length-map rs repr ∙ long ∙ sym (length-map xs repr) ∙ sym (length-zip2 f (map repr xs) (map other ys) as_long))
      (λ k below. at k (within k below) ∙ sym (get_or-zip2 f (map repr xs) (map other ys) k 0 0 0 (inside k below) (beside k below)))
    where
      as_long : length (map repr xs) ≡ length (map other ys)
      as_long = length-map xs repr ∙ sym same ∙ sym (length-map ys other)

      within : (k : ℕ) → k < length (map repr rs) → k < length xs
      within k below = let same = length-map rs repr in omega (arith, same, long, below)

      inside : (k : ℕ) → k < length (map repr rs) → k < length (map repr xs)
      inside k below = let counted = length-map xs repr in let less = within k below in omega (arith, counted, less)

      beside : (k : ℕ) → k < length (map repr rs) → k < length (map other ys)
      beside k below = let less = inside k below in omega (arith, as_long, less)
