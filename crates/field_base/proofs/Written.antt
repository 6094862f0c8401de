-- A loop that writes to one place of a list after the other, and leaves a list of numbers that is known.
use Rattle.std.proofs.Common.{◌≡◌, ℕ, ◌+◌, ◌<◌, ◌≤◌, List, length, map, set, get_or, refl, sym, ◌∙◌, ap, ap₂, subst, arith, below_more}
use Rattle.std.specs.Prelude.{slice_index}
use Rattle.std.specs.Simd.Lanes.{zip2}
use Rattle.std.proofs.lemmas.List.{ext_get_or, get_or-map, length-map}
use Rattle.std.proofs.lemmas.Simd.{get_or-zip2, length-zip2}
use Rattle.field_base.proofs.Places.{number-at, number-set_same, number-set_other}

-- the places before n have the numbers that are wanted, and the others those that they had
pub record WrittenTo {A : Type 0} (repr : A → ℕ) (wanted : List ℕ) (old now : List A) (n : ℕ) : Type 0 where
  pub done : (i : ℕ) → i < n → slice_index (map repr now) i ≡ slice_index wanted i
  pub rest : (i : ℕ) → n ≤ i → slice_index (map repr now) i ≡ slice_index (map repr old) i

module _ {A : Type 0} (repr : A → ℕ) (wanted : List ℕ) (old now : List A) where
  pub written_start : WrittenTo repr wanted old old 0
  written_start = record { done = λ i below. absurd (omega (arith, below)); rest = λ i past. refl }

  pub written_step : (n : ℕ) (x : A) → n < length now → repr x ≡ slice_index wanted n → WrittenTo repr wanted old now n
      → WrittenTo repr wanted old (set now n x) (n + 1)
  written_step n x within is so_far =
      record {
        done = below_more (λ i. slice_index (map repr (set now n x)) i ≡ slice_index wanted i) n
            (λ i below. number-set_other repr now n i x (λ e. absurd (omega (arith, e, below))) ∙ so_far.done i below)
            (number-set_same repr now n x within ∙ is);
        rest = λ i past. number-set_other repr now n i x (λ e. absurd (omega (arith, e, past))) ∙ so_far.rest i (omega (arith, past));
      }

  -- an element that is read before its place is written is as it was
  pub written-read : (n : ℕ) (x : A) → n < length now → x ≡ get_or now n x → WrittenTo repr wanted old now n
      → repr x ≡ slice_index (map repr old) n
  written-read n x within read so_far = sym (number-at repr now n x within read) ∙ so_far.rest n (omega arith)

  pub written-end : (n : ℕ) → length now ≡ length old → length wanted ≡ length old → length old ≤ n → WrittenTo repr wanted old now n
      → map repr now ≡ wanted
  written-end n same long past so_far =
      ext_get_or 0 (map repr now) wanted (length-map now repr ∙ same ∙ sym long)
      (λ i below. so_far.done i (inside i below))
    where
      inside : (i : ℕ) → i < length (map repr now) → i < n
      inside i below = let all = length-map now repr in omega (arith, all, same, past, below)

-- what is wanted at a place, of two lists and of one
module _ {A B : Type 0} (repr : A → ℕ) (other_repr : B → ℕ) (f : ℕ → ℕ → ℕ) (xs : List A) (ys : List B) where
  pub both-at : (n x : ℕ) (y : B) → n < length xs → n < length ys → x ≡ slice_index (map repr xs) n → y ≡ get_or ys n y
      → f x (other_repr y) ≡ slice_index (zip2 f (map repr xs) (map other_repr ys)) n
  both-at n x y within within_other is read =
      ap₂ f is (sym (number-at other_repr ys n y within_other read))
      ∙ sym (get_or-zip2 f (map repr xs) (map other_repr ys) n 0 0 0
      (subst (λ (k : ℕ). n < k) (sym (length-map xs repr)) within)
      (subst (λ (k : ℕ). n < k) (sym (length-map ys other_repr)) within_other))

  pub both-length : length ys ≡ length xs → length (zip2 f (map repr xs) (map other_repr ys)) ≡ length xs
  both-length same =
      length-zip2 f (map repr xs) (map other_repr ys) (length-map xs repr ∙ sym same ∙ sym (length-map ys other_repr))
      ∙ length-map xs repr

module _ {A : Type 0} (repr : A → ℕ) (f : ℕ → ℕ) (xs : List A) where
  pub each-at : (n x : ℕ) → n < length xs → x ≡ slice_index (map repr xs) n → f x ≡ slice_index (map f (map repr xs)) n
  each-at n x within is =
      ap f is ∙ sym (get_or-map f (map repr xs) n 0 0 (subst (λ (k : ℕ). n < k) (sym (length-map xs repr)) within))

  pub each-length : length (map f (map repr xs)) ≡ length xs
  each-length = length-map (map repr xs) f ∙ length-map xs repr
