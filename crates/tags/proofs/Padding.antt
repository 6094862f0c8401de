-- Messages filled up with zeros, and one after the other, as blocks.
use Rattle.std.proofs.Common.{◌≡◌, ℕ, zero, suc, ◌+◌, ◌-◌, ◌*◌, ◌/◌, ◌%◌, ◌≤◌, List, [], ◌∷◌, ◌++◌, length, take, drop, replicate, refl, sym, ap, ap₂, ◌∙◌, arith, length-append, add-zero}
use Rattle.std.specs.Prelude.{map}
use Rattle.std.proofs.lemmas.List.{take-append-le, drop-append-le, drop-drop, drop_at, take_all, append_assoc, append-nil, length-replicate, replicate-append-replicate}
use Rattle.tags.specs.Absorbed.{Holds}
use Rattle.tags.specs.Blocks.{block, blocks_of, first_blocks, zero_padded}
use Rattle.tags.specs.Hash.{polynomial_hash}
use Rattle.tags.specs.Reversed.{ghash_times}
use Rattle.tags.specs.declared.absorber.Absorber.{Absorber}
use Rattle.tags.proofs.Absorbing.{first_blocks-append, Holds-IsAbsorbed}

-- ---- zeros after a message

-- they change no block that begins within the message
block-zeros : (m : List ℕ) (k i : ℕ) → i * 16 ≤ length m → block (m ++ replicate k 0) i ≡ block m i
block-zeros m k i within =
    let xs : List ℕ = drop (i * 16) m in
    let enough : 16 ≤ length (xs ++ replicate 16 0) = omega (arith, length-append xs (replicate 16 0), length-replicate {A = ℕ} 16 0) in
    ap (λ (z : List ℕ). take 16 (z ++ replicate 16 0)) (drop-append-le (i * 16) m (replicate k 0) within)
    ∙ ap (take 16)
    (append_assoc xs (replicate k 0) (replicate 16 0)
    ∙ ap (λ (z : List ℕ). xs ++ z)
    (replicate-append-replicate k 16 0 ∙ ap (λ (n : ℕ). replicate n 0) (omega arith) ∙ sym (replicate-append-replicate 16 k 0))
    ∙ sym (append_assoc xs (replicate 16 0) (replicate k 0)))
    ∙ take-append-le 16 (xs ++ replicate 16 0) (replicate k 0) enough

first_blocks-zeros : (m : List ℕ) (k n : ℕ) → n * 16 ≤ length m + 15 → first_blocks n (m ++ replicate k 0) ≡ first_blocks n m
unfolding first_blocks
first_blocks-zeros m k zero within = refl
first_blocks-zeros m k (suc n) within =
    ap₂ (λ (bs : List (List ℕ)) (b : List ℕ). bs ++ b ∷ []) (first_blocks-zeros m k n (omega (arith, within)))
    (block-zeros m k n (omega (arith, within)))

-- how long a message with its zeros is
pub length-zero_padded : (m : List ℕ) → length (zero_padded m) ≡ (length m + 15) / 16 * 16
length-zero_padded m =
    omega (arith, length-append m (replicate ((16 - length m % 16) % 16) 0), length-replicate {A = ℕ} ((16 - length m % 16) % 16) 0)

-- its blocks, which are whole, are those of the message
pub blocks-zero_padded : (m : List ℕ) → first_blocks (length (zero_padded m) / 16) (zero_padded m) ≡ blocks_of m
blocks-zero_padded m =
    ap (λ (n : ℕ). first_blocks n (zero_padded m)) (omega (arith, length-zero_padded m))
    ∙ first_blocks-zeros m ((16 - length m % 16) % 16) ((length m + 15) / 16) (omega arith)

-- where that is held, the sum is the hash of the blocks of the message
pub hash-zero_padded : (element : List ℕ → ℕ) (key : ℕ) (s : Absorber) (m : List ℕ) → Holds element key s (zero_padded m)
    → s.sum ≡ polynomial_hash ghash_times key (map element (blocks_of m))
hash-zero_padded element key s m held =
    (Holds-IsAbsorbed element key s (zero_padded m) held).0
    ∙ ap (λ (bs : List (List ℕ)). polynomial_hash ghash_times key (map element bs)) (blocks-zero_padded m)

-- ---- one message after the other

-- a block of the second message, where the first is whole blocks
block_after : (p q : List ℕ) (a b : ℕ) → length p ≡ a * 16 → block (p ++ q) (a + b) ≡ block q b
block_after p q a b whole =
    ap (λ (z : List ℕ). take 16 (z ++ replicate 16 0))
    (ap (λ (n : ℕ). drop n (p ++ q)) (omega arith) ∙ sym (drop-drop (b * 16) (a * 16) (p ++ q))
    ∙ ap (drop (b * 16)) (drop_at p q (a * 16) whole))

first_blocks_after : (p q : List ℕ) (a b : ℕ) → length p ≡ a * 16
    → first_blocks (a + b) (p ++ q) ≡ first_blocks a p ++ first_blocks b q
unfolding first_blocks
first_blocks_after p q a zero whole =
    ap (λ (n : ℕ). first_blocks n (p ++ q)) (add-zero a) ∙ first_blocks-append p q a (omega (arith, whole))
    ∙ sym (append-nil (first_blocks a p))
first_blocks_after p q a (suc b) whole =
    ap (λ (n : ℕ). first_blocks n (p ++ q)) (more a b)
    ∙ ap₂ (λ (bs : List (List ℕ)) (x : List ℕ). bs ++ x ∷ []) (first_blocks_after p q a b whole) (block_after p q a b whole)
    ∙ append_assoc (first_blocks a p) (first_blocks b q) (block q b ∷ [])
  where
    more : (a b : ℕ) → a + suc b ≡ suc (a + b)
    more a b = omega arith

-- the blocks of a message after whole blocks
pub blocks_after : (p q : List ℕ) (a : ℕ) → length p ≡ a * 16 → blocks_of (p ++ q) ≡ first_blocks a p ++ blocks_of q
blocks_after p q a whole =
    ap (λ (n : ℕ). first_blocks n (p ++ q)) (omega (arith, length-append p q, whole))
    ∙ first_blocks_after p q a ((length q + 15) / 16) whole

first_block : (q : List ℕ) → length q ≡ 16 → first_blocks 1 q ≡ q ∷ []
unfolding first_blocks
first_block q whole =
    ap (λ (b : List ℕ). b ∷ []) (take-append-le 16 q (replicate 16 0) (omega (arith, whole)) ∙ take_all 16 q (omega (arith, whole)))

-- 16 bytes are one block
pub blocks_of_block : (q : List ℕ) → length q ≡ 16 → blocks_of q ≡ q ∷ []
blocks_of_block q whole =
    ap (λ (n : ℕ). first_blocks n q) (omega (arith, whole)) ∙ first_block q whole

-- zeros after a message that follows whole blocks are those of the message
padded_after : (p q : List ℕ) (a : ℕ) → length p ≡ a * 16 → zero_padded (p ++ q) ≡ p ++ zero_padded q
padded_after p q a whole =
    append_assoc p q (replicate ((16 - length (p ++ q) % 16) % 16) 0)
    ∙ ap (λ (n : ℕ). p ++ (q ++ replicate n 0)) (omega (arith, length-append p q, whole))

-- what GCM hashes, as it is added piece by piece
pub gcm_message : (a c l : List ℕ) → length l ≡ 16 → blocks_of (zero_padded (zero_padded a ++ c) ++ l) ≡ blocks_of a ++ blocks_of c ++ l ∷ []
gcm_message a c l whole =
    let na : ℕ = (length a + 15) / 16 in
    let nc : ℕ = (length c + 15) / 16 in
    let first : length (zero_padded a) ≡ na * 16 = length-zero_padded a in
    let both : length (zero_padded a ++ zero_padded c) ≡ (na + nc) * 16 =
    omega (arith, length-append (zero_padded a) (zero_padded c), first, length-zero_padded c) in
    ap (λ (z : List ℕ). blocks_of (z ++ l)) (padded_after (zero_padded a) c na first)
    ∙ blocks_after (zero_padded a ++ zero_padded c) l (na + nc) both
    ∙ ap₂ (λ (x y : List (List ℕ)). x ++ y)
    (first_blocks_after (zero_padded a) (zero_padded c) na nc first
    ∙ ap₂ (λ (x y : List (List ℕ)). x ++ y)
    (first_blocks-zeros a ((16 - length a % 16) % 16) na (omega arith))
    (first_blocks-zeros c ((16 - length c % 16) % 16) nc (omega arith)))
    (blocks_of_block l whole)

-- `gcm_message`, with the block of lengths in two pieces
pub pieces : (a c x y : List ℕ) → length x ≡ 8 → length y ≡ 8
    → blocks_of ((zero_padded (zero_padded a ++ c) ++ x) ++ y) ≡ blocks_of a ++ blocks_of c ++ (x ++ y) ∷ []
pieces a c x y of_x of_y =
    ap (λ (z : List ℕ). blocks_of z) (append_assoc (zero_padded (zero_padded a ++ c)) x y)
    ∙ gcm_message a c (x ++ y) (omega (arith, length-append x y, of_x, of_y))
