-- Butterflies, shifts and changes of basis of elements of the tower, as those of their images.
use Rattle.std.proofs.Common.{◌≡◌, ℕ, zero, suc, ◌+◌, ◌%◌, ◌^◌, ◌<◌, ◌≤◌, Bool, true, false, List, [], ◌∷◌, ◌++◌, length, map, take, drop, set, get_or, refl, sym, ◌∙◌, ap, ap₂, subst, arith}
use Rattle.std.specs.Prelude.{bit_xor, slice_index}
use Rattle.std.proofs.Math.ListN.{get_or-map}
use Rattle.std.proofs.lemmas.List.{append-nil, drop_all, map-append, map-id, take_all}
use Rattle.std.proofs.lemmas.Simd.{map-map}
use Rattle.additive_transforms.specs.Elements.{FitsField}
use Rattle.additive_transforms.specs.Stages.{IsButterfly, TakesBlock}
use Rattle.additive_transforms.specs.Transform.{HasStages}
use Rattle.field_base.specs.Tower.{tower_mul}
use Rattle.ghash_slices.specs.LowStages.{ghash_product}
use Rattle.additive_transforms.specs.Images.{after_change, before_change, tower_image}
use Rattle.word_tables.proofs.Isomorphisms.{isomorphic_128}
use Rattle.field_base.proofs.RemainderRing.{ghash_ring}
use Rattle.field_base.proofs.TowerRing.{tower_ring}
use native.Mathlib.Nat.{mod-eq_of_lt}

pub zero_image : tower_image 0 ≡ 0
zero_image = isomorphic_128.homomorphism.zero_image

pub sum_image : (x y : ℕ) → tower_image (bit_xor x y) ≡ bit_xor (tower_image x) (tower_image y)
sum_image = isomorphic_128.homomorphism.sum_image

pub product_image : (x y : ℕ) → tower_image (tower_mul 7 x y) ≡ ghash_product (tower_image x) (tower_image y)
product_image = isomorphic_128.homomorphism.product_image

-- of a number the image has the low bits
pub low_image : (n : ℕ) → tower_image (n % 2 ^ 128) ≡ tower_image n
low_image n =
    ap tower_image (sym ((tower_ring 7).one n)) ∙ product_image 1 n
    ∙ ap (λ (unit : ℕ). ghash_product unit (tower_image n)) isomorphic_128.homomorphism.one_image
    ∙ ghash_ring.one (tower_image n) ∙ mod-eq_of_lt (isomorphic_128.homomorphism.below n)

-- ---- butterflies

-- arrays of images are taken as the arrays of elements are
image_butterfly : (t half : ℕ) (a b a' b' : ℕ → ℕ) → ((r : ℕ) → a' r ≡ tower_image (a r)) → ((r : ℕ) → b' r ≡ tower_image (b r))
    → IsButterfly (tower_mul 7) t half a b → IsButterfly ghash_product (tower_image t) half a' b'
image_butterfly t half a b a' b' of_a of_b is = record {
  lower = λ r within.
      of_b r ∙ ap tower_image (is.lower r within) ∙ sum_image (a r) (tower_mul 7 t (a (half + r)))
      ∙ ap₂ bit_xor (sym (of_a r)) (product_image t (a (half + r)) ∙ ap (ghash_product (tower_image t)) (sym (of_a (half + r))));
  upper = λ r within.
      of_b (half + r) ∙ ap tower_image (is.upper r within) ∙ sum_image (a (half + r)) (b r)
      ∙ ap₂ bit_xor (sym (of_a (half + r))) (sym (of_b r));
}

module _ {A : Type 0} (element value : A → ℕ) (same : (x : A) → tower_image (element x) ≡ tower_image (value x)) where
  images : (xs : List A) → map (λ x. tower_image (value x)) xs ≡ map tower_image (map element xs)
  images [] = refl
  images (x ∷ xs) = ap₂ (λ (y : ℕ) (ys : List ℕ). y ∷ ys) (sym (same x)) (images xs)

  -- what stands at a place of two slices is the image of what the words hold
  image_at : (lo hi : List A) (r : ℕ) → slice_index (map (λ x. tower_image (value x)) lo ++ map (λ x. tower_image (value x)) hi) r
      ≡ tower_image (slice_index (map element lo ++ map element hi) r)
  image_at lo hi r =
      ap (λ (l : List ℕ). slice_index l r)
      (ap₂ (λ (xs ys : List ℕ). xs ++ ys) (images lo) (images hi) ∙ sym (map-append tower_image (map element lo) (map element hi)))
      ∙ ap (get_or (map tower_image (map element lo ++ map element hi)) r) (sym zero_image)
      ∙ get_or-map tower_image (map element lo ++ map element hi) r 0

  -- so the butterflies of words are those of the images
  pub block_of_images : (inverse : Bool) (t half : ℕ) (lo hi lo' hi' : List A)
      → TakesBlock inverse (tower_mul 7) t half (slice_index (map element lo ++ map element hi)) (slice_index (map element lo' ++ map element hi'))
      → TakesBlock inverse ghash_product (tower_image t) half (slice_index (map (λ x. tower_image (value x)) lo ++ map (λ x. tower_image (value x)) hi))
      (slice_index (map (λ x. tower_image (value x)) lo' ++ map (λ x. tower_image (value x)) hi'))
  block_of_images false t half lo hi lo' hi' is =
      image_butterfly t half (slice_index (map element lo ++ map element hi)) (slice_index (map element lo' ++ map element hi'))
      (slice_index (map (λ x. tower_image (value x)) lo ++ map (λ x. tower_image (value x)) hi))
      (slice_index (map (λ x. tower_image (value x)) lo' ++ map (λ x. tower_image (value x)) hi')) (image_at lo hi) (image_at lo' hi') is
  block_of_images true t half lo hi lo' hi' is =
      image_butterfly t half (slice_index (map element lo' ++ map element hi')) (slice_index (map element lo ++ map element hi))
      (slice_index (map (λ x. tower_image (value x)) lo' ++ map (λ x. tower_image (value x)) hi'))
      (slice_index (map (λ x. tower_image (value x)) lo ++ map (λ x. tower_image (value x)) hi)) (image_at lo' hi') (image_at lo hi) is

-- ---- changes of basis

-- one more number is replaced by y, of which f is what g is of the old one
one_replaced : (f g : ℕ → ℕ) (xs : List ℕ) (i y : ℕ) → i < length xs → f y ≡ g (get_or xs i 0)
    → map f (take (suc i) (set xs i y)) ++ map g (drop (suc i) (set xs i y)) ≡ map f (take i xs) ++ map g (drop i xs)
one_replaced f g [] i y within is = elim within [ ]
one_replaced f g (x ∷ xs) zero y within is = ap (λ (v : ℕ). v ∷ map g xs) is
one_replaced f g (x ∷ xs) (suc i) y within is =
    ap (λ (l : List ℕ). f x ∷ l) (one_replaced f g xs i y (omega (arith, within)) is)

pub next_replaced : (f g : ℕ → ℕ) (olds xs next : List ℕ) (i y : ℕ) → i < length xs → f y ≡ g (get_or xs i 0) → next ≡ set xs i y
    → map f (take i xs) ++ map g (drop i xs) ≡ map g olds → map f (take (i + 1) next) ++ map g (drop (i + 1) next) ≡ map g olds
next_replaced f g olds xs next i y within is next_is so_far =
    let more : i + 1 ≡ suc i = omega arith in
    ap₂ (λ (n : ℕ) (ys : List ℕ). map f (take n ys) ++ map g (drop n ys)) more next_is ∙ one_replaced f g xs i y within is ∙ so_far

pub none_replaced : (f g : ℕ → ℕ) (xs : List ℕ) → map f (take 0 xs) ++ map g (drop 0 xs) ≡ map g xs
none_replaced f g xs = refl

-- and so all are where as many are as there are
pub all_replaced : (f g : ℕ → ℕ) (xs olds : List ℕ) (n : ℕ) → length xs ≤ n → map f (take n xs) ++ map g (drop n xs) ≡ map g olds
    → map f xs ≡ map g olds
all_replaced f g xs olds n all is =
    sym (append-nil (map f xs))
    ∙ sym (ap₂ (λ (ys zs : List ℕ). map f ys ++ map g zs) (take_all n xs all) (drop_all n xs all)) ∙ is

-- what holds of the images between both changes holds of the polynomials before and after them
pub through_images : {A : Type 0} (value : A → ℕ) (P : ℕ → List ℕ → List ℕ → Type 0) (z shift : ℕ) (old before after new : List A)
    → tower_image shift ≡ z → map (after_change false) (map value before) ≡ map (before_change false) (map value old)
    → map (after_change true) (map value new) ≡ map (before_change true) (map value after)
    → P (tower_image shift) (map (λ x. tower_image (value x)) before) (map (λ x. tower_image (value x)) after)
    → P z (map value old) (map value new)
through_images value P z shift old before after new of_z on back holds =
    subst (λ (s : ℕ). P s (map value old) (map value new)) of_z
    (subst (λ (l : List ℕ). P (tower_image shift) l (map value new))
    (sym (map-map tower_image value before) ∙ on ∙ map-id (map value old))
    (subst (P (tower_image shift) (map (λ x. tower_image (value x)) before))
    (sym (map-map tower_image value after) ∙ sym back ∙ map-id (map value new)) holds))

-- so many values are few enough for the field
pub fits_ghash : (count values : ℕ) → values ≡ count → (m : ℕ) × HasStages m count → FitsField 128 values
fits_ghash count values same has = let few = has.1.0 in (has.0, (few, same ∙ has.1.1), omega (arith, few))
