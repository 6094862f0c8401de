-- The values of a slice, read through a part of it that was lent and written.
use Rattle.std.proofs.Common.{◌≡◌, ℕ, zero, suc, ◌+◌, ◌-◌, ◌<◌, ◌≤◌, List, [], ◌∷◌, ◌++◌, length, map, take, drop, refl, sym, ◌∙◌, ap, ap₂, arith}
use Rattle.std.specs.Prelude.{slice_index}
use Rattle.std.proofs.lemmas.List.{get_or-append-add, get_or-drop, get_or-take, get_or_append_left, length-map, map-append}
use lib.Seq.{length-take-le}
use borrow.Rule.Slice.PartMut.{mid_of, put_mid}

-- the images of the first n items are the first n images
pub map-take : {A : Type 0} (f : A → ℕ) (n : ℕ) (xs : List A) → map f (take n xs) ≡ take n (map f xs)
map-take f zero xs = refl
map-take f (suc n) [] = refl
map-take f (suc n) (x ∷ xs) = ap (λ (zs : List ℕ). f x ∷ zs) (map-take f n xs)

-- the images of the items from n on are the images from n on
pub map-drop : {A : Type 0} (f : A → ℕ) (n : ℕ) (xs : List A) → map f (drop n xs) ≡ drop n (map f xs)
map-drop f zero xs = refl
map-drop f (suc n) [] = refl
map-drop f (suc n) (x ∷ xs) = map-drop f n xs

-- ---- numbers: the k of them from the place a on are replaced by as many others

module _ (a k : ℕ) (xs ys : List ℕ) (inside : a + k ≤ length xs) (as_long : length ys ≡ k) where
  front : length (take a xs) ≡ a
  front = length-take-le a xs (omega arith)

  -- before the part that was written the list is as it was
  number_before : (p : ℕ) → p < a → slice_index (put_mid a k xs ys) p ≡ slice_index xs p
  number_before p below =
      let within : p < length (take a xs) = omega (arith, front) in
      get_or_append_left (take a xs) (ys ++ drop k (drop a xs)) 0 p within ∙ get_or-take a xs p 0 below

  -- inside it is what was written
  number_inside : (r : ℕ) → r < k → slice_index (put_mid a k xs ys) (a + r) ≡ slice_index ys r
  number_inside r below =
      let within : r < length ys = omega arith in
      ap (λ (n : ℕ). slice_index (put_mid a k xs ys) (n + r)) (sym front)
      ∙ get_or-append-add (take a xs) (ys ++ drop k (drop a xs)) r 0
      ∙ get_or_append_left ys (drop k (drop a xs)) 0 r within

  -- and behind it is as it was
  number_behind : (p : ℕ) → a + k ≤ p → slice_index (put_mid a k xs ys) p ≡ slice_index xs p
  number_behind p past =
      let parts : p ≡ length (take a xs) + (length ys + (p - (a + k))) = omega (arith, front) in
      let again : a + (k + (p - (a + k))) ≡ p = omega arith in
      ap (slice_index (put_mid a k xs ys)) parts
      ∙ get_or-append-add (take a xs) (ys ++ drop k (drop a xs)) (length ys + (p - (a + k))) 0
      ∙ get_or-append-add ys (drop k (drop a xs)) (p - (a + k)) 0
      ∙ get_or-drop k (drop a xs) (p - (a + k)) 0 ∙ get_or-drop a xs (k + (p - (a + k))) 0 ∙ ap (slice_index xs) again

-- ---- elements, by their values

module _ {A : Type 0} (value : A → ℕ) (a k : ℕ) (xs ys : List A) (inside : a + k ≤ length xs) (as_long : length ys ≡ k) where
  -- the values of the list with a part replaced are the values with their part replaced
  as_numbers : map value (put_mid a k xs ys) ≡ put_mid a k (map value xs) (map value ys)
  as_numbers =
      map-append value (take a xs) (ys ++ drop k (drop a xs))
      ∙ ap₂ (λ (l r : List ℕ). l ++ r) (map-take value a xs)
      (map-append value ys (drop k (drop a xs))
      ∙ ap (λ (r : List ℕ). map value ys ++ r) (map-drop value k (drop a xs) ∙ ap (drop k) (map-drop value a xs)))

  room : a + k ≤ length (map value xs)
  room = let same = length-map xs value in omega (arith, same)

  same_count : length (map value ys) ≡ k
  same_count = length-map ys value ∙ as_long

  -- `number_before`, `number_inside` and `number_behind` for the values of items: before the part
  pub read_before : (p : ℕ) → p < a → slice_index (map value (put_mid a k xs ys)) p ≡ slice_index (map value xs) p
  read_before p below =
      ap (λ (l : List ℕ). slice_index l p) as_numbers ∙ number_before a k (map value xs) (map value ys) room same_count p below

  -- inside it
  pub read_inside : (r : ℕ) → r < k → slice_index (map value (put_mid a k xs ys)) (a + r) ≡ slice_index (map value ys) r
  read_inside r below =
      ap (λ (l : List ℕ). slice_index l (a + r)) as_numbers
      ∙ number_inside a k (map value xs) (map value ys) room same_count r below

  -- and after it
  pub read_behind : (p : ℕ) → a + k ≤ p → slice_index (map value (put_mid a k xs ys)) p ≡ slice_index (map value xs) p
  read_behind p past =
      ap (λ (l : List ℕ). slice_index l p) as_numbers ∙ number_behind a k (map value xs) (map value ys) room same_count p past

-- what is lent
pub read_lent : {A : Type 0} (value : A → ℕ) (a k : ℕ) (xs : List A) (r : ℕ) → r < k
    → slice_index (map value (mid_of a k xs)) r ≡ slice_index (map value xs) (a + r)
read_lent value a k xs r below =
    ap (λ (l : List ℕ). slice_index l r) (map-take value k (drop a xs) ∙ ap (take k) (map-drop value a xs))
    ∙ get_or-take k (drop a (map value xs)) r 0 below ∙ get_or-drop a (map value xs) r 0
