-- One stage, block by block.
use Rattle.std.proofs.Common.{◌≡◌, ◌⊎◌, inl, inr, ℕ, suc, ◌+◌, ◌-◌, ◌*◌, ◌/◌, ◌^◌, ◌<◌, ◌≤◌, Bool, true, false, List, length, map, refl, sym, ◌∙◌, ap, ap₂, subst, arith}
use Rattle.std.specs.Prelude.{bit_xor, slice_index}
use Rattle.std.proofs.Math.Nat.{two-pow-succ}
use Rattle.std.proofs.lemmas.Bool.{cases_lt}
use borrow.Rule.Slice.PartMut.{mid_len, mid_of, put_mid, same_len_mid}
use Rattle.ghash_slices.specs.LowStages.{values_from}
use Rattle.additive_transforms.specs.Stages.{IsButterfly, TakesBlock}
use Rattle.additive_transforms.proofs.Written.{read_before, read_behind, read_inside, read_lent}
use lib.Arith.{digits_lt}

-- arrays that are the same in a block
pub butterfly-same : (times : ℕ → ℕ → ℕ) (t half : ℕ) (a b c d : ℕ → ℕ)
    → ((r : ℕ) → r < half + half → c r ≡ a r) → ((r : ℕ) → r < half + half → d r ≡ b r)
    → IsButterfly times t half a b → IsButterfly times t half c d
butterfly-same times t half a b c d same same' is =
    record {
      lower =
          λ r below.
          let low : r < half + half = omega arith in
          let high : half + r < half + half = omega arith in
          same' r low ∙ is.lower r below
          ∙ ap₂ (λ (x y : ℕ). bit_xor x (times t y)) (sym (same r low)) (sym (same (half + r) high));
      upper =
          λ r below.
          let low : r < half + half = omega arith in
          let high : half + r < half + half = omega arith in
          same' (half + r) high ∙ is.upper r below ∙ ap₂ bit_xor (sym (same (half + r) high)) (sym (same' r low));
    }

-- a butterfly, with its scalar and half length replaced by equal ones
pub butterfly-at : (times : ℕ → ℕ → ℕ) (t t' half half' : ℕ) (a b : ℕ → ℕ) → t ≡ t' → half ≡ half' → IsButterfly times t half a b
    → IsButterfly times t' half' a b
butterfly-at times t t' half half' a b scalar length is =
    subst (λ (h : ℕ). IsButterfly times t' h a b) length (subst (λ (s : ℕ). IsButterfly times s half a b) scalar is)

-- ---- blocks so far

-- a relation between what a block held and what it holds, that looks at the block alone
pub record InBlocks (size : ℕ) (holds : ℕ → (ℕ → ℕ) → (ℕ → ℕ) → Type 0) : Type 0 where
  pub same : (q : ℕ) (a b c d : ℕ → ℕ) → ((r : ℕ) → r < size → c r ≡ a r) → ((r : ℕ) → r < size → d r ≡ b r)
      → holds q a b → holds q c d

-- the blocks before block n hold what they should, and the places from it on are as they were
pub record BlocksSoFar (size : ℕ) (holds : ℕ → (ℕ → ℕ) → (ℕ → ℕ) → Type 0) (n : ℕ) (old now : List ℕ) : Type 0 where
  pub done : (q : ℕ) → q < n → holds q (values_from old (q * size)) (values_from now (q * size))
  pub rest : (p : ℕ) → n * size ≤ p → slice_index now p ≡ slice_index old p

-- before the first block nothing is done
pub blocks_start : (size : ℕ) (holds : ℕ → (ℕ → ℕ) → (ℕ → ℕ) → Type 0) (old : List ℕ) → BlocksSoFar size holds 0 old old
blocks_start size holds old = record { done = λ q below. absurd (omega arith); rest = λ p past. refl }

module _ {A : Type 0} (value : A → ℕ) (size : ℕ) (holds : ℕ → (ℕ → ℕ) → (ℕ → ℕ) → Type 0) (local : InBlocks size holds) where
  -- one more block done, where the block that was lent holds the relation
  pub blocks_step : (n start k : ℕ) (old now block : List A) → start ≡ n * size → k ≡ size → start + size ≤ length now → length block ≡ k
      → holds n (slice_index (map value (mid_of start k now))) (slice_index (map value block))
      → BlocksSoFar size holds n (map value old) (map value now)
      → BlocksSoFar size holds (n + 1) (map value old) (map value (put_mid start k now block))
  blocks_step n start k old now block at whole inside as_long is so_far =
      record {
        done = λ q below. pick q below (cases_lt q n);
        rest =
            λ p past.
            let behind : start + k ≤ p = omega (arith, next) in
            let later : n * size ≤ p = omega (arith, next) in
            read_behind value start k now block room as_long p behind ∙ so_far.rest p later;
      }
    where
      next : (n + 1) * size ≡ n * size + size
      next = omega arith

      room : start + k ≤ length now
      room = omega arith

      pick : (q : ℕ) → q < n + 1 → (q < n) ⊎ (n ≤ q)
          → holds q (values_from (map value old) (q * size)) (values_from (map value (put_mid start k now block)) (q * size))
      pick q below (inl earlier) =
          local.same q _ _ _ _ (λ r within. refl)
          (λ r within.
          let before : q * size + r < start = let apart = digits_lt earlier within in omega (arith, apart) in
          read_before value start k now block room as_long (q * size + r) before)
          (so_far.done q earlier)
      pick q below (inr last) =
          let here : n ≡ q = omega arith in
          subst (λ (m : ℕ). holds m (values_from (map value old) (m * size)) (values_from (map value (put_mid start k now block)) (m * size))) here
          (local.same n _ _ _ _
          (λ r within.
          let later : n * size ≤ n * size + r = omega arith in
          let in_k : r < k = omega arith in
          sym (so_far.rest (n * size + r) later) ∙ ap (λ (m : ℕ). slice_index (map value now) (m + r)) (sym at)
          ∙ sym (read_lent value start k now r in_k))
          (λ r within.
          let in_k : r < k = omega arith in
          ap (λ (m : ℕ). slice_index (map value (put_mid start k now block)) (m + r)) (sym at)
          ∙ read_inside value start k now block room as_long r in_k)
          is)

-- ---- the butterflies of blocks

-- the butterfly of blocks of twice `half` places, or its inverse, where the scalar of block q is t q
module _ (inverse : Bool) (times : ℕ → ℕ → ℕ) (t : ℕ → ℕ) (half : ℕ) where
  -- block q becomes what it should
  abbrev pub taken_block : ℕ → (ℕ → ℕ) → (ℕ → ℕ) → Type 0
  taken_block q old now = TakesBlock inverse times (t q) half old now

  -- that depends on the block's values alone
  pub taken_local : InBlocks (2 * half) taken_block
  taken_local = record { same = λ q a b c d first second. local inverse q a b c d first second }
    where
      local : (back : Bool) (q : ℕ) (a b c d : ℕ → ℕ) → ((r : ℕ) → r < 2 * half → c r ≡ a r) → ((r : ℕ) → r < 2 * half → d r ≡ b r)
          → TakesBlock back times (t q) half a b → TakesBlock back times (t q) half c d
      local false q a b c d first second =
          butterfly-same times (t q) half a b c d (λ r below. first r (omega arith)) (λ r below. second r (omega arith))
      local true q a b c d first second =
          butterfly-same times (t q) half b a d c (λ r below. second r (omega arith)) (λ r below. first r (omega arith))

  -- the blocks before block n have become that, and the others are as they were: what a loop over the blocks keeps
  abbrev pub StageSoFar : ℕ → List ℕ → List ℕ → Type 0
  StageSoFar n old now = BlocksSoFar (2 * half) taken_block n old now

  -- one more block, which was lent from its first place on, and its scalar as it was computed
  pub stage_step : {A : Type 0} (value : A → ℕ) (n start s : ℕ) (old now block : List A) → start ≡ n * (2 * half)
      → start + 2 * half ≤ length now → length block ≡ length (mid_of start (start + 2 * half - start) now) → s ≡ t n
      → TakesBlock inverse times s half (slice_index (map value (mid_of start (start + 2 * half - start) now)))
      (slice_index (map value block))
      → length now ≡ length old → StageSoFar n (map value old) (map value now)
      → (length (put_mid start (start + 2 * half - start) now block) ≡ length old)
      × StageSoFar (n + 1) (map value old) (map value (put_mid start (start + 2 * half - start) now block))
  stage_step value n start s old now block start_is inside lent scalar is same so_far = (
    same_len_mid start (start + 2 * half - start) now block lent ∙ same,
    blocks_step value (2 * half) taken_block taken_local n start (start + 2 * half - start) old now block start_is (omega arith) inside
        (lent ∙ mid_len start (start + 2 * half) now inside)
        (subst (λ (x : ℕ). TakesBlock inverse times x half (slice_index (map value (mid_of start (start + 2 * half - start) now)))
        (slice_index (map value block))) scalar is)
        so_far,
  )

  -- ---- the blocks of a stage

  -- where `half` is that of stage j
  module _ (j : ℕ) (half_is : half ≡ 2 ^ j) where
    -- a block in both numbers of its places
    size : 2 * half ≡ 2 ^ suc j
    size = let halves = two-pow-succ j in omega (arith, half_is, halves)

    -- a count of values has as many blocks by both numbers
    pub stage_blocks : (count : ℕ) → count / 2 ^ (j + 1) ≡ count / (2 * half)
    stage_blocks count =
        let next : j + 1 ≡ suc j = omega arith in
        ap (λ (n : ℕ). count / n) (ap (λ (e : ℕ). 2 ^ e) next ∙ sym size)

    -- where all blocks have become what they should the stage is done
    pub stage_taken : (count : ℕ) (old now : List ℕ)
        → ((q : ℕ) → q < count / (2 * half) → taken_block q (values_from old (q * (2 * half))) (values_from now (q * (2 * half))))
        → (q : ℕ) → q < count / 2 ^ (j + 1)
        → TakesBlock inverse times (t q) (2 ^ j) (values_from old (q * 2 ^ suc j)) (values_from now (q * 2 ^ suc j))
    stage_taken count old now all q below =
        let blocks = stage_blocks count in
        subst (λ (s : ℕ). TakesBlock inverse times (t q) (2 ^ j) (values_from old (q * s)) (values_from now (q * s))) size
        (subst (λ (h : ℕ). TakesBlock inverse times (t q) h (values_from old (q * (2 * half))) (values_from now (q * (2 * half)))) half_is
        (all q (omega (arith, blocks, below))))

    -- so it is after the last block
    pub stage_done : (count n : ℕ) (old now : List ℕ) → count / (2 * half) ≤ n → StageSoFar n old now
        → (q : ℕ) → q < count / 2 ^ (j + 1)
        → TakesBlock inverse times (t q) (2 ^ j) (values_from old (q * 2 ^ suc j)) (values_from now (q * 2 ^ suc j))
    stage_done count n old now last so_far = stage_taken count old now (λ q below. so_far.done q (omega (arith, last, below)))
