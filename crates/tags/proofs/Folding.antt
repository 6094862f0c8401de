-- The hash of the first blocks of some bytes, one block or four blocks further.
use Rattle.std.proofs.Common.{◌≡◌, ℕ, ◌+◌, ◌-◌, ◌*◌, ◌≤◌, List, [], ◌∷◌, ◌++◌, length, take, drop, replicate, refl, sym, ap, ap₂, ◌∙◌, arith, length-drop, lit≤}
use Rattle.std.specs.Prelude.{bit_xor, fold, map}
use Rattle.std.proofs.lemmas.List.{take-append-le, drop-drop, drop-take, take-take, map-append}
use Rattle.std.proofs.lemmas.List.Sums.{fold-append}
use Rattle.tags.specs.Blocks.{block, first_blocks}
use Rattle.tags.specs.Hash.{polynomial_hash}
use Rattle.tags.specs.Powers.{added_block}
use Rattle.tags.specs.Reversed.{ghash_times}
use Rattle.tags.proofs.Absorbing.{first_blocks_next}

-- a block inside four blocks of some bytes
pub part : (m : List ℕ) (a j : ℕ) → j + 16 ≤ 64 → take 16 (drop j (take 64 (drop a m))) ≡ take 16 (drop (a + j) m)
part m a j within =
    let count : 64 ≡ j + (64 - j) = omega (arith, within) in
    ap (λ (n : ℕ). take 16 (drop j (take n (drop a m)))) count
    ∙ ap (take 16) (drop-take j (64 - j) (drop a m))
    ∙ take-take 16 (64 - j) (drop j (drop a m)) (omega (arith, within))
    ∙ ap (take 16) (drop-drop j a m)

-- the n bytes from place a to place a + n
pub take_exact : (n : ℕ) (m : List ℕ) (a : ℕ) → take (a + n - a) (drop a m) ≡ take n (drop a m)
take_exact n m a =
    let whole : a + n - a ≡ n = omega arith in
    ap (λ (k : ℕ). take k (drop a m)) whole

module _ (element : List ℕ → ℕ) (key sum : ℕ) (m : List ℕ) where
  -- the hash after the first n blocks
  abbrev pub hash_from : ℕ → ℕ
  hash_from n = fold (λ y x. ghash_times (bit_xor y x) key) sum (map element (first_blocks n m))

  pub hash_from_none : hash_from 0 ≡ sum
  unfolding first_blocks
  hash_from_none = refl

  -- and one more, which may be short
  pub hash_from_block : (n : ℕ) → hash_from (n + 1) ≡ added_block element key (hash_from n) (block m n)
  hash_from_block n =
      ap (λ (bs : List (List ℕ)). fold (λ y x. ghash_times (bit_xor y x) key) sum (map element bs)) (first_blocks_next m n)
      ∙ ap (fold (λ y x. ghash_times (bit_xor y x) key) sum) (map-append element (first_blocks n m) (block m n ∷ []))
      ∙ fold-append (λ y x. ghash_times (bit_xor y x) key) sum (map element (first_blocks n m)) (element (block m n) ∷ [])

  pub hash_from_next : (n : ℕ) → n * 16 + 16 ≤ length m
      → hash_from (n + 1) ≡ added_block element key (hash_from n) (take 16 (drop (n * 16) m))
  hash_from_next n within =
      let whole : block m n ≡ take 16 (drop (n * 16) m) =
      take-append-le 16 (drop (n * 16) m) (replicate 16 0) (omega (arith, length-drop (n * 16) m, within)) in
      hash_from_block n ∙ ap (added_block element key (hash_from n)) whole

  -- four blocks further
  pub hash_from_four : (n a : ℕ) → a ≡ n * 16 → a + 64 ≤ length m
      → hash_from (n + 4)
      ≡ added_block element key (added_block element key (added_block element key (added_block element key (hash_from n)
      (take 16 (drop (a + 0) m))) (take 16 (drop (a + 16) m))) (take 16 (drop (a + 32) m))) (take 16 (drop (a + 48) m))
  hash_from_four n a at within =
      let one = hash_from_at n (a + 0) (omega (arith, at)) (omega (arith, within)) in
      let two = hash_from_at (n + 1) (a + 16) (omega (arith, at)) (omega (arith, within)) in
      let three = hash_from_at (n + 2) (a + 32) (omega (arith, at)) (omega (arith, within)) in
      let four = hash_from_at (n + 3) (a + 48) (omega (arith, at)) (omega (arith, within)) in
      again (n + 4) (n + 3 + 1) (omega arith) ∙ four
      ∙ ap (λ (y : ℕ). added_block element key y (take 16 (drop (a + 48) m)))
      (again (n + 3) (n + 2 + 1) (omega arith) ∙ three
      ∙ ap (λ (y : ℕ). added_block element key y (take 16 (drop (a + 32) m)))
      (again (n + 2) (n + 1 + 1) (omega arith) ∙ two
      ∙ ap (λ (y : ℕ). added_block element key y (take 16 (drop (a + 16) m))) one))
    where
      again : (k l : ℕ) → k ≡ l → hash_from k ≡ hash_from l
      again k l same = ap (λ (z : ℕ). hash_from z) same

      hash_from_at : (k b : ℕ) → b ≡ k * 16 → b + 16 ≤ length m
          → hash_from (k + 1) ≡ added_block element key (hash_from k) (take 16 (drop b m))
      hash_from_at k b is fits =
          hash_from_next k (omega (arith, is, fits))
          ∙ ap (λ (z : ℕ). added_block element key (hash_from k) (take 16 (drop z m))) (sym is)

  -- `hash_from_next` and `hash_from_four`, as loops over slices have them
  pub hash_from_slice : (n h r : ℕ) (x : List ℕ) → h ≡ hash_from n → n * 16 + 16 ≤ length m → x ≡ take 16 (drop (16 * n) m)
      → r ≡ added_block element key h x → r ≡ hash_from (n + 1)
  hash_from_slice n h r x of_h within of_x of_r =
      of_r ∙ ap₂ (λ (y : ℕ) (z : List ℕ). added_block element key y z) of_h
      (of_x ∙ ap (λ (k : ℕ). take 16 (drop k m)) (omega arith)) ∙ sym (hash_from_next n within)

  pub hash_from_four_slice : (n h r : ℕ) (x : List ℕ) → h ≡ hash_from (4 * n) → 64 * n + 64 ≤ length m → x ≡ take 64 (drop (64 * n) m)
      → r ≡ added_block element key (added_block element key (added_block element key (added_block element key h (take 16 x))
      (take 16 (drop 16 x))) (take 16 (drop 32 x))) (take 16 (drop 48 x))
      → r ≡ hash_from (4 * (n + 1))
  hash_from_four_slice n h r x of_h within of_x of_r =
      let a : ℕ = 64 * n in
      let at : (j : ℕ) → j + 16 ≤ 64 → take 16 (drop j x) ≡ take 16 (drop (a + j) m) =
      λ j fits. ap (λ (z : List ℕ). take 16 (drop j z)) of_x ∙ part m a j fits in
      of_r
      ∙ ap₂ (λ (y : ℕ) (z : List ℕ). added_block element key (added_block element key (added_block element key (added_block element key y z)
      (take 16 (drop 16 x))) (take 16 (drop 32 x))) (take 16 (drop 48 x))) of_h (at 0 (lit≤ tt))
      ∙ ap₂ (λ (y z : List ℕ). added_block element key (added_block element key (added_block element key (added_block element key (hash_from (4 * n))
      (take 16 (drop (a + 0) m))) y) z) (take 16 (drop 48 x))) (at 16 (lit≤ tt)) (at 32 (lit≤ tt))
      ∙ ap (added_block element key (added_block element key (added_block element key (added_block element key (hash_from (4 * n))
      (take 16 (drop (a + 0) m))) (take 16 (drop (a + 16) m))) (take 16 (drop (a + 32) m)))) (at 48 (lit≤ tt))
      ∙ sym (hash_from_four (4 * n) a (omega arith) (omega (arith, within)))
      ∙ again_four
    where
      again_four : hash_from (4 * n + 4) ≡ hash_from (4 * (n + 1))
      again_four = ap (λ (z : ℕ). hash_from z) (omega arith)

-- the hash of two lists of blocks and of one block more, in three steps
pub hash_of_three : (element : List ℕ → ℕ) (key first both all : ℕ) (a t : List (List ℕ)) (l : List ℕ)
    → first ≡ fold (λ y x. ghash_times (bit_xor y x) key) 0 (map element a)
    → both ≡ fold (λ y x. ghash_times (bit_xor y x) key) first (map element t)
    → all ≡ added_block element key both l → all ≡ polynomial_hash ghash_times key (map element (a ++ t ++ l ∷ []))
hash_of_three element key first both all a t l first_is both_is all_is =
    let after = λ (y : ℕ) (bs : List (List ℕ)). fold (λ y x. ghash_times (bit_xor y x) key) y (map element bs) in
    let split = λ (y : ℕ) (bs cs : List (List ℕ)).
    ap (fold (λ y x. ghash_times (bit_xor y x) key) y) (map-append element bs cs)
    ∙ fold-append (λ y x. ghash_times (bit_xor y x) key) y (map element bs) (map element cs) in
    all_is ∙ ap (λ (y : ℕ). added_block element key y l) (both_is ∙ ap (λ (y : ℕ). after y t) first_is ∙ sym (split 0 a t))
    ∙ sym (split 0 (a ++ t) (l ∷ []))
