-- The hashes of both standards by the product of the field of GHASH, with the bits of blocks reversed.
use Rattle.std.proofs.Common.{◌≡◌, ℕ, ◌^◌, ◌<◌, List, [], ◌∷◌, refl, sym, ap, ◌∙◌}
use Rattle.std.specs.Prelude.{bit_xor, fold, map}
use Rattle.std.specs.Int.{from_be_bytes, from_le_bytes, to_be_bytes, to_le_bytes, w128}
use Rattle.std.proofs.lemmas.Nat.{pow_pos}
use Rattle.field_base.proofs.RemainderRing.{ghash_ring}
use Rattle.field_base.proofs.RingLemmas.{times_left_comm}
use Rattle.tags.specs.Gcm.{gcm_product, ghash}
use Rattle.tags.specs.Hash.{polynomial_hash}
use Rattle.tags.specs.Polyval.{dot, polyval}
use Rattle.tags.specs.Reversed.{ghash_element, ghash_times, polyval_multiplier}
use Rattle.tags.proofs.ReversedBits.{reversed, reversed_xor, reversed_twice}
use Rattle.tags.proofs.GcmProduct.{gcm_product_image, gcm_product-lt, reversed-zero}
use Rattle.tags.proofs.PolyvalProduct.{dot_image, dot-lt}

-- a hash stays a block
pub fold-lt : (product : ℕ → ℕ → ℕ) (key : ℕ) → ((a : ℕ) → product a key < 2 ^ 128) → (sum : ℕ) (xs : List ℕ) → sum < 2 ^ 128
    → fold (λ y x. product (bit_xor y x) key) sum xs < 2 ^ 128
fold-lt product key below sum [] fits = fits
fold-lt product key below sum (x ∷ xs) fits = fold-lt product key below (product (bit_xor sum x) key) xs (below (bit_xor sum x))

-- a product by a key that is one by a multiplier, once the bits are reversed
module _ (product : ℕ → ℕ → ℕ) (key multiplier : ℕ)
    (below : (a : ℕ) → product a key < 2 ^ 128)
    (image : (a : ℕ) → reversed 128 (product a key) ≡ ghash_times (reversed 128 a) multiplier) where
  -- the hash goes on in the field
  fold_image : (read : List ℕ → ℕ) (sum : ℕ) (blocks : List (List ℕ))
      → reversed 128 (fold (λ y x. product (bit_xor y x) key) sum (map read blocks))
      ≡ fold (λ y x. ghash_times (bit_xor y x) multiplier) (reversed 128 sum) (map (λ b. reversed 128 (read b)) blocks)
  fold_image read sum [] = refl
  fold_image read sum (b ∷ bs) =
      fold_image read (product (bit_xor sum (read b)) key) bs
      ∙ ap (λ (z : ℕ). fold (λ y x. ghash_times (bit_xor y x) multiplier) z (map (λ b. reversed 128 (read b)) bs))
      (image (bit_xor sum (read b)) ∙ ap (λ (z : ℕ). ghash_times z multiplier) (reversed_xor 128 sum (read b)))

  pub hash_reversed : (read : List ℕ → ℕ) (blocks : List (List ℕ))
      → reversed 128 (polynomial_hash ghash_times multiplier (map (λ b. reversed 128 (read b)) blocks))
      ≡ polynomial_hash product key (map read blocks)
  hash_reversed read blocks =
      sym (ap (reversed 128)
      (fold_image read 0 blocks
      ∙ ap (λ (z : ℕ). fold (λ y x. ghash_times (bit_xor y x) multiplier) z (map (λ b. reversed 128 (read b)) blocks)) reversed-zero))
      ∙ reversed_twice 128 (polynomial_hash product key (map read blocks)) (fold-lt product key below 0 (map read blocks) (pow_pos 128))

  -- the hash as bytes, however a number is written
  pub hash_written : (read : List ℕ → ℕ) (write : ℕ → List ℕ) (blocks : List (List ℕ)) (h : ℕ)
      → h ≡ polynomial_hash ghash_times multiplier (map (λ b. reversed 128 (read b)) blocks)
      → write (reversed 128 h) ≡ write (polynomial_hash product key (map read blocks))
  hash_written read write blocks h is = ap write (ap (reversed 128) is ∙ hash_reversed read blocks)

-- the hash of a standard, as it is written, is that of the field by a multiplier made of the key, with the bits reversed
abbrev IsHashOfField : (List ℕ → ℕ) → (ℕ → List ℕ) → (List ℕ → ℕ) → (List ℕ → List (List ℕ) → List ℕ) → Type 0
IsHashOfField read write multiplier hash = (key : List ℕ) (blocks : List (List ℕ)) (h r : ℕ) (bytes : List ℕ)
    → bytes ≡ write r → r ≡ reversed 128 h → h ≡ polynomial_hash ghash_times (multiplier key) (map (λ b. reversed 128 (read b)) blocks)
    → bytes ≡ hash key blocks

-- so it is for each product whose bits reversed are those of one by the multiplier
by_field : (product : ℕ → ℕ → ℕ) (read : List ℕ → ℕ) (write : ℕ → List ℕ) (multiplier : List ℕ → ℕ) → ((a k : ℕ) → product a k < 2 ^ 128)
    → ((a : ℕ) (key : List ℕ) → reversed 128 (product a (read key)) ≡ ghash_times (reversed 128 a) (multiplier key))
    → IsHashOfField read write multiplier (λ key blocks. write (polynomial_hash product (read key) (map read blocks)))
by_field product read write multiplier below image key blocks h r bytes written turned is =
    written ∙ ap write turned
    ∙ hash_written product (read key) (multiplier key) (λ a. below a (read key)) (λ a. image a key) read write blocks h is

-- GHASH by the field
pub ghash_result : IsHashOfField (from_be_bytes w128) (to_be_bytes w128) ghash_element ghash
unfolding ghash
ghash_result = by_field gcm_product (from_be_bytes w128) (to_be_bytes w128) ghash_element gcm_product-lt (λ a key. gcm_product_image a _)

-- the product of POLYVAL is one by the multiplier
pub dot_multiplier : (a k : ℕ) → reversed 128 (dot a k) ≡ ghash_times (reversed 128 a) (ghash_times 2 (reversed 128 k))
dot_multiplier a k = dot_image a k ∙ times_left_comm 128 1 ghash_times ghash_ring 2 (reversed 128 a) (reversed 128 k)

-- POLYVAL by the field
pub polyval_result : IsHashOfField (from_le_bytes w128) (to_le_bytes w128) polyval_multiplier polyval
unfolding polyval
polyval_result = by_field dot (from_le_bytes w128) (to_le_bytes w128) polyval_multiplier dot-lt (λ a key. dot_multiplier a _)
