-- A list of elements as numbers: what stands at a place, and after a write.
use Rattle.std.proofs.Common.{◌≡◌, ◌≢◌, ℕ, zero, suc, ◌^◌, ◌<◌, List, [], ◌∷◌, length, map, set, get_or, sym, subst, ◌∙◌, ap}
use Rattle.std.specs.Prelude.{slice_index}
use Rattle.std.proofs.lemmas.Nat.{pow_pos}
use Rattle.std.proofs.lemmas.List.{get_or-map, get_or-set_same, get_or-set_other, map-set, length-map}

module _ {A : Type 0} (repr : A → ℕ) where
  -- the number at a place is that of the element there
  pub number-at : (xs : List A) (i : ℕ) (x : A) → i < length xs → x ≡ get_or xs i x → slice_index (map repr xs) i ≡ repr x
  number-at xs i x within is = get_or-map repr xs i x 0 within ∙ ap repr (sym is)

  -- after a write to a place its number is that of what was written
  pub number-set_same : (xs : List A) (i : ℕ) (x : A) → i < length xs → slice_index (map repr (set xs i x)) i ≡ repr x
  number-set_same xs i x within =
      ap (λ (ns : List ℕ). slice_index ns i) (map-set repr xs i x)
      ∙ get_or-set_same (map repr xs) i (repr x) 0 (subst (λ (n : ℕ). i < n) (sym (length-map xs repr)) within)

  -- and the other numbers are as before
  pub number-set_other : (xs : List A) (i j : ℕ) (x : A) → j ≢ i
      → slice_index (map repr (set xs i x)) j ≡ slice_index (map repr xs) j
  number-set_other xs i j x other =
      ap (λ (ns : List ℕ). slice_index ns j) (map-set repr xs i x) ∙ get_or-set_other (map repr xs) i j (repr x) 0 other

  -- each number fits, and so does the 0 beyond the list
  pub numbers-lt : (width : ℕ) → ((x : A) → repr x < 2 ^ width) → (xs : List A) (i : ℕ) → slice_index (map repr xs) i < 2 ^ width
  numbers-lt width range [] i = pow_pos width
  numbers-lt width range (x ∷ xs) zero = range x
  numbers-lt width range (x ∷ xs) (suc i) = numbers-lt width range xs i
