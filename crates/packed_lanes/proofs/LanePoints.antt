-- Lanes that a loop writes one after the other, and lists of lanes that agree at each place.
use Rattle.std.proofs.Common.{◌≡◌, ◌≢◌, ◌⊎◌, inl, inr, ℕ, zero, suc, ◌+◌, ◌<◌, ◌≤◌, List, [], ◌∷◌, length, map, refl, sym, ◌∙◌, ap₂, subst, arith}
use Rattle.std.specs.Prelude.{slice_index_or, slice_set}
use Rattle.std.proofs.lemmas.List.{get_or-set_same, get_or-set_other}
use native.Mathlib.Nat.{eq-or-lt_of_le, le_refl}
use Rattle.packed_lanes.specs.Lanes.{lane_by_lane}

-- an entry of a list does not depend on what stands for those past its end
pub same_entry : {A : Type 0} → (xs : List A) (i : ℕ) (d e : A) → i < length xs → slice_index_or xs i d ≡ slice_index_or xs i e
same_entry [] i d e within = absurd (omega (arith, within))
same_entry (x ∷ xs) zero d e within = refl
same_entry (x ∷ xs) (suc i) d e within = same_entry xs i d e (omega (arith, within))

-- what holds at each lane below i, and of the value for lane i, holds at each lane below i + 1 once it is written
pub lanes_done : {A : Type 0} → (T : ℕ → A → Type 0) (xs : List A) (i : ℕ) (v : A) → i < length xs
    → ((k : ℕ) (d : A) → k < i → T k (slice_index_or xs k d)) → T i v
    → (k : ℕ) (d : A) → k < i + 1 → T k (slice_index_or (slice_set xs i v) k d)
lanes_done {A} T xs i v within before now k d below = pick (eq-or-lt_of_le (omega (arith, below)))
  where
    pick : (k ≡ i) ⊎ (k < i) → T k (slice_index_or (slice_set xs i v) k d)
    pick (inl same) =
        subst (λ j. T j (slice_index_or (slice_set xs i v) j d)) (sym same)
        (subst (T i) (sym (get_or-set_same xs i v d within)) now)
    pick (inr less) =
        let other : k ≢ i = λ same. absurd (omega (arith, less, same)) in
        subst (T k) (sym (get_or-set_other xs i k v d other)) (before k d less)

-- the lanes from i + 1 on are as they were, once lane i is written
lanes_left : {A : Type 0} → (xs ys : List A) (i : ℕ) (v : A)
    → ((k : ℕ) (d : A) → i ≤ k → slice_index_or ys k d ≡ slice_index_or xs k d)
    → (k : ℕ) (d : A) → i + 1 ≤ k → slice_index_or (slice_set ys i v) k d ≡ slice_index_or xs k d
lanes_left xs ys i v before k d above =
    let other : k ≢ i = λ same. absurd (omega (arith, above, same)) in
    get_or-set_other ys i k v d other ∙ before k d (omega (arith, above))

-- what a loop over lanes has done before lane i: it has written the lanes below i, and the others are as they were
pub record Written {A : Type 0} (P : ℕ → A → A → Type 0) (old now : List A) (i : ℕ) : Type 0 where
  pub done : (k : ℕ) (d : A) → k < i → (e : A) → P k (slice_index_or old k e) (slice_index_or now k d)
  pub left : (k : ℕ) (d : A) → i ≤ k → slice_index_or now k d ≡ slice_index_or old k d

-- before lane 0 nothing is written
pub none_written : {A : Type 0} → (P : ℕ → A → A → Type 0) (lanes : List A) → Written P lanes lanes 0
none_written P lanes = record {
  done = λ k d below. absurd (omega (arith, below));
  left = λ k d above. refl;
}

-- once r is written to lane i, from which x was read, the lanes below i + 1 are written
pub lane_written : {A : Type 0} → (P : ℕ → A → A → Type 0) (old now : List A) (i : ℕ) (x r : A) → length now ≡ length old
    → i < length old → x ≡ slice_index_or now i x → Written P old now i → P i x r → Written P old (slice_set now i r) (i + 1)
lane_written {A} P old now i x r long within is before given = record {
  done = lanes_done (λ k v. (e : A) → P k (slice_index_or old k e) v) now i r (omega (arith, long, within)) before.done
      (λ e. subst (λ v. P i v r) (is ∙ before.left i x (le_refl i) ∙ same_entry old i x e within) given);
  left = lanes_left old now i r before.left;
}

-- lists whose numbers agree with an operation at each lane
pub lanes_agree : {A : Type 0} → (repr : A → ℕ) (op : ℕ → ℕ → ℕ) (xs ys rs : List A) → length rs ≡ length xs
    → length ys ≡ length xs
    → ((k : ℕ) (d : A) → k < length xs → repr (slice_index_or rs k d) ≡ op (repr (slice_index_or xs k d)) (repr (slice_index_or ys k d)))
    → map repr rs ≡ lane_by_lane op (map repr xs) (map repr ys)
lanes_agree repr op [] ys [] long also at = refl
lanes_agree repr op [] ys (r ∷ rs) long also at = absurd (omega (arith, long))
lanes_agree repr op (x ∷ xs) ys [] long also at = absurd (omega (arith, long))
lanes_agree repr op (x ∷ xs) [] (r ∷ rs) long also at = absurd (omega (arith, also))
lanes_agree repr op (x ∷ xs) (y ∷ ys) (r ∷ rs) long also at =
    ap₂ (λ (n : ℕ) (ns : List ℕ). n ∷ ns) (at 0 x (omega arith))
    (lanes_agree repr op xs ys rs (omega (arith, long)) (omega (arith, also))
    (λ k d below. at (suc k) d (omega (arith, below))))

-- lists whose numbers agree with a map at each lane
pub images_agree : {A : Type 0} → (repr : A → ℕ) (f : ℕ → ℕ) (xs rs : List A) → length rs ≡ length xs
    → ((k : ℕ) (d : A) → k < length xs → repr (slice_index_or rs k d) ≡ f (repr (slice_index_or xs k d)))
    → map repr rs ≡ map f (map repr xs)
images_agree repr f [] [] long at = refl
images_agree repr f [] (r ∷ rs) long at = absurd (omega (arith, long))
images_agree repr f (x ∷ xs) [] long at = absurd (omega (arith, long))
images_agree repr f (x ∷ xs) (r ∷ rs) long at =
    ap₂ (λ (n : ℕ) (ns : List ℕ). n ∷ ns) (at 0 x (omega arith))
    (images_agree repr f xs rs (omega (arith, long)) (λ k d below. at (suc k) d (omega (arith, below))))
