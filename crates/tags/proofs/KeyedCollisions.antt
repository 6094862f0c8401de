-- What holds of the hash by a polynomial over every field holds of GHASH and of POLYVAL.
use Rattle.std.proofs.Common.{◌≡◌, ℕ, zero, suc, ◌^◌, ◌<◌, List, [], ◌∷◌, ◌++◌, get_or, refl, sym, ◌∙◌, ap, ap₂, arith, lit<}
use Rattle.std.specs.Prelude.{bit_xor, fold, map, reverse}
use Rattle.std.specs.List.{All}
use Rattle.std.proofs.lemmas.List.{length-map, map-append, reverse-append}
use Rattle.word_tables.proofs.Isomorphisms.{field_128}
use Rattle.tags.specs.Collisions.{AtMostCollide, GhashCollides, HaveSameBlocks, IsMessage, PolyvalCollides}
use Rattle.tags.specs.Gcm.{gcm_hash, gcm_product, shifted}
use Rattle.tags.specs.Hash.{polynomial_hash}
use Rattle.tags.specs.Reversed.{ghash_times}
use Rattle.tags.proofs.ReversedBits.{reversed, reversed_xor, reversed-lt, reversed_twice}
use Rattle.tags.proofs.Steps.{shifted-lt}
use Rattle.tags.proofs.GcmProduct.{gcm_product_image, reversed-zero}
use Rattle.tags.proofs.PolyvalProduct.{shifted_injective}
use Rattle.tags.proofs.PolyvalRelation.{polyval_hash_shifted}
use Rattle.tags.proofs.Collisions.{polynomial_hash_collides, reversed-fits}

-- the hash of GHASH, reversed
fold_reversed : (key sum : ℕ) (xs : List ℕ) → reversed 128 (fold (λ y x. gcm_product (bit_xor y x) key) sum xs)
    ≡ fold (λ y x. ghash_times (bit_xor y x) (reversed 128 key)) (reversed 128 sum) (map (reversed 128) xs)
fold_reversed key sum [] = refl
fold_reversed key sum (x ∷ xs) =
    fold_reversed key (gcm_product (bit_xor sum x) key) xs
    ∙ ap (λ (z : ℕ). fold (λ y x. ghash_times (bit_xor y x) (reversed 128 key)) z (map (reversed 128) xs))
    (gcm_product_image (bit_xor sum x) key ∙ ap (λ (z : ℕ). ghash_times z (reversed 128 key)) (reversed_xor 128 sum x))

gcm_hash_reversed : (key : ℕ) (xs : List ℕ)
    → reversed 128 (gcm_hash key xs) ≡ polynomial_hash ghash_times (reversed 128 key) (map (reversed 128) xs)
gcm_hash_reversed key xs =
    fold_reversed key 0 xs
    ∙ ap (λ (z : ℕ). fold (λ y x. ghash_times (bit_xor y x) (reversed 128 key)) z (map (reversed 128) xs)) reversed-zero

-- numbers that are one reversed are one
reversed_injective : (a b : ℕ) → a < 2 ^ 128 → b < 2 ^ 128 → reversed 128 a ≡ reversed 128 b → a ≡ b
reversed_injective a b a_fits b_fits same =
    sym (reversed_twice 128 a a_fits) ∙ ap (reversed 128) same ∙ reversed_twice 128 b b_fits

-- a list mapped and reversed
map_reverse : (xs : List ℕ) → reverse (map (reversed 128) xs) ≡ map (reversed 128) (reverse xs)
map_reverse [] = refl
map_reverse (x ∷ xs) =
    reverse-append (reversed 128 x ∷ []) (map (reversed 128) xs)
    ∙ ap (λ (ys : List ℕ). ys ++ reversed 128 x ∷ []) (map_reverse xs)
    ∙ sym (ap (map (reversed 128)) (reverse-append (x ∷ []) xs) ∙ map-append (reversed 128) (reverse xs) (x ∷ []))

get_or_map : (xs : List ℕ) (i : ℕ) → get_or (map (reversed 128) xs) i 0 ≡ reversed 128 (get_or xs i 0)
get_or_map [] zero = sym reversed-zero
get_or_map [] (suc i) = sym reversed-zero
get_or_map (x ∷ xs) zero = refl
get_or_map (x ∷ xs) (suc i) = get_or_map xs i

block_reversed : (xs : List ℕ) (i : ℕ) → get_or (reverse (map (reversed 128) xs)) i 0 ≡ reversed 128 (get_or (reverse xs) i 0)
block_reversed xs i = ap (λ (ys : List ℕ). get_or ys i 0) (map_reverse xs) ∙ get_or_map (reverse xs) i

-- messages that have the same blocks reversed have the same blocks
same_reversed : (n : ℕ) (xs ys : List ℕ) → IsMessage 128 n xs → IsMessage 128 n ys
    → HaveSameBlocks (map (reversed 128) xs) (map (reversed 128) ys) → HaveSameBlocks xs ys
same_reversed n xs ys of_xs of_ys same i =
    reversed_injective (get_or (reverse xs) i 0) (get_or (reverse ys) i 0) (reversed-fits 128 n xs of_xs i) (reversed-fits 128 n ys of_ys i)
    (sym (block_reversed xs i) ∙ same i ∙ block_reversed ys i)

message_reversed : (n : ℕ) (xs : List ℕ) → IsMessage 128 n xs → IsMessage 128 n (map (reversed 128) xs)
message_reversed n xs is = (omega (arith, length-map xs (reversed 128), is.0), all xs)
  where
    all : (xs : List ℕ) → All (λ x. x < 2 ^ 128) (map (reversed 128) xs)
    all [] k d within = absurd (omega (arith, within))
    all (x ∷ xs) zero d within = reversed-lt 128 x
    all (x ∷ xs) (suc k) d within = all xs k d (omega (arith, within))

pub ghash_collides : GhashCollides
unfolding AtMostCollide
ghash_collides n count difference left right key of_left of_right differ distinct collide =
    polynomial_hash_collides 128 ghash_times (lit< tt) field_128 n count (reversed 128 difference)
    (map (reversed 128) left) (map (reversed 128) right) (λ i. reversed 128 (key i))
    (message_reversed n left of_left) (message_reversed n right of_right)
    (λ same. differ (same_reversed n left right of_left of_right same))
    record {
      below = λ i within. reversed-lt 128 (key i);
      differ = λ i j i_within j_within same. distinct.differ i j i_within j_within
          (reversed_injective (key i) (key j) (distinct.below i i_within) (distinct.below j j_within) same);
    }
    (λ i within.
    sym (ap₂ bit_xor (gcm_hash_reversed (key i) left) (gcm_hash_reversed (key i) right))
    ∙ sym (reversed_xor 128 (gcm_hash (key i) left) (gcm_hash (key i) right))
    ∙ ap (reversed 128) (collide i within))

pub polyval_collides : PolyvalCollides
unfolding AtMostCollide
polyval_collides n count difference left right key of_left of_right differ distinct collide =
    ghash_collides n count difference left right (λ i. shifted (key i)) of_left of_right differ
    record {
      below = λ i within. shifted-lt (key i) (distinct.below i within);
      differ = λ i j i_within j_within same. distinct.differ i j i_within j_within
          (shifted_injective (key i) (key j) (distinct.below i i_within) (distinct.below j j_within) same);
    }
    (λ i within.
    sym (ap₂ bit_xor (polyval_hash_shifted (key i) (distinct.below i within) left of_left.1)
    (polyval_hash_shifted (key i) (distinct.below i within) right of_right.1))
    ∙ collide i within)
