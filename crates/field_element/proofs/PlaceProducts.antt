-- Lists whose elements are replaced from the first on, one after the other: by products with the elements of another
-- list, or by its elements.
use Rattle.std.proofs.Common.{◌≡◌, ℕ, zero, suc, ◌+◌, ◌<◌, ◌≤◌, List, [], ◌∷◌, ◌++◌, length, get_or, map, take, drop, refl, sym, ◌∙◌, ap, ap₂, arith}
use Rattle.std.specs.Prelude.{slice_set}
use Rattle.std.specs.Simd.Lanes.{zip2}
use Rattle.std.proofs.lemmas.List.{append-nil, drop_all, get_or-map, length-map, map-set, take_all}
use Rattle.packed_lanes.specs.Lanes.{lane_by_lane}

-- the first i elements of xs joined by f to those of ys at their places, and the others of xs as they were
abbrev pub joined_before : (ℕ → ℕ → ℕ) → ℕ → List ℕ → List ℕ → List ℕ
joined_before f i xs ys = lane_by_lane f (take i xs) (take i ys) ++ drop i xs

-- the element of ys alone
abbrev pub other : ℕ → ℕ → ℕ
other x y = y

-- an operator on two vectors goes lane by lane
pub by_lanes : (f : ℕ → ℕ → ℕ) (xs ys : List ℕ) → zip2 f xs ys ≡ lane_by_lane f xs ys
by_lanes f [] ys = refl
by_lanes f (x ∷ xs) [] = refl
by_lanes f (x ∷ xs) (y ∷ ys) = ap (λ (zs : List ℕ). f x y ∷ zs) (by_lanes f xs ys)

-- a list joined to another so is the other
pub all_other : (xs ys : List ℕ) → length xs ≡ length ys → lane_by_lane other xs ys ≡ ys
all_other [] [] long = refl
all_other [] (y ∷ ys) long = absurd (omega arith)
all_other (x ∷ xs) [] long = absurd (omega arith)
all_other (x ∷ xs) (y ∷ ys) long = ap (λ (zs : List ℕ). y ∷ zs) (all_other xs ys (omega arith))

-- ---- over numbers

-- an element more
place_joined : (f : ℕ → ℕ → ℕ) (i : ℕ) (xs ys : List ℕ) → i < length xs → length ys ≡ length xs
    → slice_set (joined_before f i xs ys) i (f (get_or (joined_before f i xs ys) i 0) (get_or ys i 0)) ≡ joined_before f (suc i) xs ys
place_joined f i [] ys within long = absurd (omega arith)
place_joined f i (x ∷ xs) [] within long = absurd (omega arith)
place_joined f zero (x ∷ xs) (y ∷ ys) within long = refl
place_joined f (suc i) (x ∷ xs) (y ∷ ys) within long =
    ap (λ (zs : List ℕ). f x y ∷ zs) (place_joined f i xs ys (omega arith) (omega arith))

-- a number more is written
pub number_written : (i : ℕ) (old now ys : List ℕ) (r : ℕ) → i < length old → length ys ≡ length old → r ≡ get_or ys i 0
    → now ≡ joined_before other i old ys → slice_set now i r ≡ joined_before other (i + 1) old ys
number_written i old now ys r within long of_r so_far =
    let next : suc i ≡ i + 1 = omega arith in
    ap (slice_set now i) of_r ∙ ap (λ (zs : List ℕ). slice_set zs i (get_or ys i 0)) so_far
    ∙ place_joined other i old ys within long ∙ ap (λ (k : ℕ). joined_before other k old ys) next

-- past the last place all are
all_joined : (f : ℕ → ℕ → ℕ) (i : ℕ) (old now ys : List ℕ) → length old ≤ i → length ys ≡ length old
    → now ≡ joined_before f i old ys → now ≡ lane_by_lane f old ys
all_joined f i old now ys past long so_far =
    so_far
    ∙ ap₂ (λ (us vs : List ℕ). us ++ vs) (ap₂ (lane_by_lane f) (take_all i old past) (take_all i ys (omega arith))) (drop_all i old past)
    ∙ append-nil (lane_by_lane f old ys)

-- and where they were written, they are the other list
pub numbers_written : (i : ℕ) (old now ys : List ℕ) → length old ≤ i → length ys ≡ length old
    → now ≡ joined_before other i old ys → now ≡ ys
numbers_written i old now ys past long so_far = all_joined other i old now ys past long so_far ∙ all_other old ys (sym long)

-- ---- over elements with numbers

module _ {A : Type 0} (repr : A → ℕ) (f : ℕ → ℕ → ℕ) where
  -- an element more is replaced
  pub place_replaced : (i : ℕ) (old now : List A) (ys : List ℕ) (x r : A) (y : ℕ) → i < length old → i < length now
      → length ys ≡ length old → x ≡ get_or now i x → y ≡ get_or ys i 0 → repr r ≡ f (repr x) y
      → map repr now ≡ joined_before f i (map repr old) ys → map repr (slice_set now i r) ≡ joined_before f (i + 1) (map repr old) ys
  place_replaced i old now ys x r y within inside long of_x of_y of_r so_far =
      let next : suc i ≡ i + 1 = omega arith in
      map-set repr now i r
      ∙ ap (slice_set (map repr now) i)
      (of_r ∙ ap₂ f (ap repr of_x ∙ sym (get_or-map repr now i x 0 inside)) of_y)
      ∙ ap (λ (zs : List ℕ). slice_set zs i (f (get_or zs i 0) (get_or ys i 0))) so_far
      ∙ place_joined f i (map repr old) ys (omega (arith, length-map old repr, within)) (long ∙ sym (length-map old repr))
      ∙ ap (λ (k : ℕ). joined_before f k (map repr old) ys) next

  -- past the last place all are
  pub all_replaced : (i : ℕ) (old now : List A) (ys : List ℕ) → length old ≤ i → length ys ≡ length old
      → map repr now ≡ joined_before f i (map repr old) ys → map repr now ≡ lane_by_lane f (map repr old) ys
  all_replaced i old now ys past long so_far =
      all_joined f i (map repr old) (map repr now) ys (omega (arith, length-map old repr, past)) (long ∙ sym (length-map old repr)) so_far
