-- POLYVAL is GHASH of the blocks with their bytes reversed (RFC 8452, appendix A).
use Rattle.std.proofs.Common.{◌≡◌, ℕ, zero, suc, ◌^◌, ◌<◌, List, [], ◌∷◌, refl, sym, ◌∙◌, ap, ap₂, arith}
use Rattle.std.specs.Prelude.{bit_xor, fold, map, reverse}
use Rattle.std.specs.List.{All}
use Rattle.std.specs.Int.{from_be_bytes, from_le_bytes, to_be_bytes, to_le_bytes, w128}
use Rattle.std.proofs.lemmas.Nat.{xor_lt, pow_pos}
use Rattle.tags.specs.Blocks.{IsBlock}
use Rattle.tags.specs.Gcm.{gcm_hash, gcm_product, ghash, shifted}
use Rattle.tags.specs.Polyval.{dot, mul_x_ghash, polyval, polyval_hash, PolyvalIsGhash}
use Rattle.tags.proofs.Steps.{shifted-lt}
use Rattle.tags.proofs.GcmProduct.{gcm_product-lt}
use Rattle.tags.proofs.PolyvalProduct.{dot_shifted_key}
use Rattle.tags.proofs.BlockBytes.{from_reversed, reverse_to, from_be-to_be, from_le-lt}

-- the hash of POLYVAL is that of GHASH under the next V of the key
pub fold_shifted : (key : ℕ) → key < 2 ^ 128 → (sum : ℕ) → sum < 2 ^ 128 → (xs : List ℕ) → All (λ x. x < 2 ^ 128) xs
    → fold (λ s x. dot (bit_xor s x) key) sum xs ≡ fold (λ y x. gcm_product (bit_xor y x) (shifted key)) sum xs
fold_shifted key key_fits sum fits [] small = refl
fold_shifted key key_fits sum fits (x ∷ xs) small =
    let next : ℕ = gcm_product (bit_xor sum x) (shifted key) in
    ap (λ (z : ℕ). fold (λ s x. dot (bit_xor s x) key) z xs)
    (dot_shifted_key (bit_xor sum x) key (xor_lt 128 sum x fits (small 0 0 (omega arith))) key_fits)
    ∙ fold_shifted key key_fits next (gcm_product-lt (bit_xor sum x) (shifted key)) xs
    (λ k d within. small (suc k) d (omega (arith, within)))

pub polyval_hash_shifted : (key : ℕ) → key < 2 ^ 128 → (xs : List ℕ) → All (λ x. x < 2 ^ 128) xs
    → polyval_hash key xs ≡ gcm_hash (shifted key) xs
polyval_hash_shifted key fits xs small = fold_shifted key fits 0 (pow_pos 128) xs small

-- the numbers of blocks
numbers_fit : (blocks : List (List ℕ)) → All IsBlock blocks → All (λ x. x < 2 ^ 128) (map (from_le_bytes w128) blocks)
numbers_fit [] are k d within = absurd (omega (arith, within))
numbers_fit (b ∷ bs) are zero d within = from_le-lt b (are 0 [] (omega arith))
numbers_fit (b ∷ bs) are (suc k) d within =
    numbers_fit bs (λ j e j_within. are (suc j) e (omega (arith, j_within))) k d (omega (arith, within))

numbers_turned : (blocks : List (List ℕ)) → All IsBlock blocks
    → map (from_be_bytes w128) (map reverse blocks) ≡ map (from_le_bytes w128) blocks
numbers_turned [] are = refl
numbers_turned (b ∷ bs) are =
    ap₂ (λ (x : ℕ) (xs : List ℕ). x ∷ xs) (from_reversed b (are 0 [] (omega arith)).0)
    (numbers_turned bs (λ j e j_within. are (suc j) e (omega (arith, j_within))))

pub polyval_is_ghash : PolyvalIsGhash
unfolding polyval ghash
polyval_is_ghash key blocks of_key are =
    let k : ℕ = from_le_bytes w128 key in
    let fits : k < 2 ^ 128 = from_le-lt key of_key in
    let same_key : from_be_bytes w128 (mul_x_ghash (reverse key)) ≡ shifted k =
    ap (λ (z : ℕ). from_be_bytes w128 (to_be_bytes w128 (shifted z))) (from_reversed key of_key.0)
    ∙ from_be-to_be (shifted k) (shifted-lt k fits) in
    ap (λ (z : ℕ). to_le_bytes w128 z)
    (polyval_hash_shifted k fits (map (from_le_bytes w128) blocks) (numbers_fit blocks are)
    ∙ sym (ap₂ (λ (x : ℕ) (xs : List ℕ). gcm_hash x xs) same_key (numbers_turned blocks are)))
    ∙ sym (reverse_to (gcm_hash (from_be_bytes w128 (mul_x_ghash (reverse key))) (map (from_be_bytes w128) (map reverse blocks))))
