-- Places that are drawn one in each block miss marked places no more often than places that are drawn one by one.
use Rattle.std.proofs.Common.{◌≡◌, inl, inr, ℕ, zero, suc, ◌+◌, ◌-◌, ◌*◌, ◌^◌, ◌<◌, ◌≤◌, Bool, true, false, cond, List, [], ◌∷◌, length, refl, sym, ◌∙◌, ap, ap₂, subst, arith}
use Rattle.std.specs.Prelude.{◌&&◌, not, slice_index}
use Rattle.std.proofs.Math.Nat.{mul-le-mul, mul-le-mul_left, pow-le-pow_left, pow-suc, pow-zero, two-pow-succ}
use Rattle.std.proofs.lemmas.Nat.{mul-pow, pow-add}
use Rattle.std.proofs.lemmas.Bool.{cases_lt}
use Rattle.field_slices.specs.Blocks.{FewBlocksMiss, FewCheatsInBlocks, blocks_unmarked}
use Rattle.field_slices.specs.Marks.{marked_below, total}
use Rattle.field_slices.specs.Openings.{sum_lists}
use Rattle.field_slices.proofs.Counting.{total-same, total-times}
use Rattle.field_slices.proofs.Counts.{few-drawn, lists-constant, unmarked-count}

first-power : (s : ℕ) → s ^ 1 ≡ s
first-power s = pow-suc s 0 ∙ ap (λ (a : ℕ). a * s) (pow-zero s) ∙ once s
  where
    once : (s : ℕ) → 1 * s ≡ s
    once s = omega arith

total-split : (f : ℕ → ℕ) (a b : ℕ) → total f (a + b) ≡ total f a + total (λ x. f (a + x)) b
unfolding total
total-split f a zero = let none : a + 0 ≡ a = omega arith in ap (total f) none ∙ omega arith
total-split f a (suc b) =
    let more : a + suc b ≡ suc (a + b) = omega arith in
    let before = total-split f a b in
    ap (total f) more ∙ omega (arith, before)

-- no number is that of a marked place, where each place is not marked
pub blocks-free : (size : ℕ) (marked : ℕ → Bool) (i : ℕ) (numbers : List ℕ)
    → ((j : ℕ) → j < length numbers → marked ((i + j) * size + slice_index numbers j) ≡ false)
    → blocks_unmarked size marked i numbers ≡ true
unfolding blocks_unmarked
blocks-free size marked i [] each = refl
blocks-free size marked i (x ∷ numbers) each =
    both (marked (i * size + x)) (let same : i * size + x ≡ (i + 0) * size + x = omega arith in ap marked same ∙ each 0 (omega arith))
    (blocks-free size marked (suc i) numbers
    (λ j below.
    let same : (suc i + j) * size + slice_index numbers j ≡ (i + suc j) * size + slice_index numbers j = omega arith in
    ap marked same ∙ each (suc j) (omega (arith, below))))
  where
    both : (b : Bool) → b ≡ false → blocks_unmarked size marked (suc i) numbers ≡ true → not b && blocks_unmarked size marked (suc i) numbers ≡ true
    both true is free = absurd (cc)
    both false is free = free

module _ (size : ℕ) (marked : ℕ → Bool) where
  -- how many places of block i are not marked
  free_in : ℕ → ℕ
  free_in i = marked_below (λ x. not (marked (i * size + x))) size

  -- the product over so many blocks from block i on, and the sum
  product_from : ℕ → ℕ → ℕ
  product_from i zero = 1
  product_from i (suc q) = free_in i * product_from (suc i) q

  sum_from : ℕ → ℕ → ℕ
  sum_from i zero = 0
  sum_from i (suc q) = free_in i + sum_from (suc i) q

  lists-product : (q i : ℕ) → sum_lists q size (λ numbers. cond (blocks_unmarked size marked i numbers) 1 0) ≡ product_from i q
  unfolding sum_lists blocks_unmarked product_from free_in
  lists-product zero i = refl
  lists-product (suc q) i =
      total-same (λ x. sum_lists q size (λ numbers. cond (not (marked (i * size + x)) && blocks_unmarked size marked (suc i) numbers) 1 0))
      (λ x. product_from (suc i) q * cond (not (marked (i * size + x))) 1 0) size
      (λ x below. at (marked (i * size + x)) (lists-product q (suc i)))
      ∙ total-times (product_from (suc i) q) (λ x. cond (not (marked (i * size + x))) 1 0) size
      ∙ turned (product_from (suc i) q) (marked_below (λ x. not (marked (i * size + x))) size)
    where
      turned : (a b : ℕ) → a * b ≡ b * a
      turned a b = omega arith

      at : (b : Bool) → sum_lists q size (λ numbers. cond (blocks_unmarked size marked (suc i) numbers) 1 0) ≡ product_from (suc i) q
          → sum_lists q size (λ numbers. cond (not b && blocks_unmarked size marked (suc i) numbers) 1 0) ≡ product_from (suc i) q * cond (not b) 1 0
      at true before = let none = lists-constant q size 0 in omega (arith, none)
      at false before = omega (arith, before)

  product-more : (p i q : ℕ) → product_from i (p + q) ≡ product_from i p * product_from (i + p) q
  unfolding product_from
  product-more zero i q = let same : i ≡ i + 0 = omega arith in let none : 0 + q ≡ q = omega arith in
      ap (product_from i) none ∙ ap (λ (j : ℕ). product_from j q) same ∙ once (product_from (i + 0) q)
    where
      once : (a : ℕ) → a ≡ 1 * a
      once a = omega arith
  product-more (suc p) i q =
      let more : suc p + q ≡ suc (p + q) = omega arith in
      let same : suc i + p ≡ i + suc p = omega arith in
      ap (product_from i) more
      ∙ ap (λ (a : ℕ). free_in i * a) (product-more p (suc i) q ∙ ap (λ (j : ℕ). product_from (suc i) p * product_from j q) same)
      ∙ joined (free_in i) (product_from (suc i) p) (product_from (i + suc p) q)
    where
      joined : (a b c : ℕ) → a * (b * c) ≡ a * b * c
      joined a b c = omega arith

  sum-more : (p i q : ℕ) → sum_from i (p + q) ≡ sum_from i p + sum_from (i + p) q
  unfolding sum_from
  sum-more zero i q = let same : i ≡ i + 0 = omega arith in let none : 0 + q ≡ q = omega arith in
      ap (sum_from i) none ∙ ap (λ (j : ℕ). sum_from j q) same ∙ nothing-more (sum_from (i + 0) q)
    where
      nothing-more : (a : ℕ) → a ≡ 0 + a
      nothing-more a = omega arith
  sum-more (suc p) i q =
      let more : suc p + q ≡ suc (p + q) = omega arith in
      let same : suc i + p ≡ i + suc p = omega arith in
      let before = sum-more p (suc i) q in
      let turned : sum_from (suc i + p) q ≡ sum_from (i + suc p) q = ap (λ (j : ℕ). sum_from j q) same in
      ap (sum_from i) more ∙ omega (arith, before, turned)

  -- the product of as many numbers as a power of two, times the power of their count, is at most the power of their sum
  means : (m i : ℕ) → (2 ^ m) ^ 2 ^ m * product_from i (2 ^ m) ≤ sum_from i (2 ^ m) ^ 2 ^ m
  unfolding product_from sum_from
  means zero i =
      let power = first-power (free_in i + 0) in
      omega (arith, power)
  means (suc m) i =
      subst (λ (k : ℕ). k ^ k * product_from i k ≤ sum_from i k ^ k) (sym (two-pow-succ m))
      (halves (2 ^ m) (product_from i (2 ^ m)) (product_from (i + 2 ^ m) (2 ^ m)) (sum_from i (2 ^ m)) (sum_from (i + 2 ^ m) (2 ^ m))
      (product_from i (2 ^ m + 2 ^ m)) (sum_from i (2 ^ m + 2 ^ m)) (means m i) (means m (i + 2 ^ m)) (product-more (2 ^ m) i (2 ^ m))
      (sum-more (2 ^ m) i (2 ^ m)))
    where
      square : (a b : ℕ) → 4 * (a * b) ≤ (a + b) * (a + b)
      square a b = elim (cases_lt a b) [
        | inl less ↦ wide a (b - a) b (omega (arith, less))
        | inr more ↦ let is = wide b (a - b) a (omega (arith, more)) in omega (arith, is)
      ]
        where
          wide : (a r b : ℕ) → b ≡ a + r → 4 * (a * b) ≤ (a + b) * (a + b)
          wide a r b is = subst (λ (c : ℕ). 4 * (a * c) ≤ (a + c) * (a + c)) (sym is) (omega arith)

      -- (q + q) ^ (q + q) is 4 ^ q q ^ q q ^ q
      doubled : (q : ℕ) → (q + q) ^ (q + q) ≡ 4 ^ q * (q ^ q * q ^ q)
      doubled q =
          let twice : q + q ≡ 2 * q = omega arith in
          pow-add (q + q) q q
          ∙ ap (λ (a : ℕ). a * a) (ap (λ (a : ℕ). a ^ q) twice ∙ mul-pow 2 q q)
          ∙ turned (2 ^ q) (q ^ q) ∙ ap (λ (a : ℕ). a * (q ^ q * q ^ q)) (sym (mul-pow 2 2 q))
        where
          turned : (a b : ℕ) → a * b * (a * b) ≡ a * a * (b * b)
          turned a b = omega arith

      halves : (q p r a b whole sum : ℕ) → q ^ q * p ≤ a ^ q → q ^ q * r ≤ b ^ q → whole ≡ p * r → sum ≡ a + b
          → (q + q) ^ (q + q) * whole ≤ sum ^ (q + q)
      halves q p r a b whole sum one other whole_is sum_is =
          let both = mul-le-mul one other in
          let scaled = mul-le-mul_left (4 ^ q) both in
          let squares = pow-le-pow_left (square a b) q in
          let left : (q + q) ^ (q + q) * whole ≡ 4 ^ q * (q ^ q * p * (q ^ q * r)) =
          ap₂ (λ (x y : ℕ). x * y) (doubled q) whole_is ∙ turned (4 ^ q) (q ^ q) p r in
          let middle : 4 ^ q * (a ^ q * b ^ q) ≡ (4 * (a * b)) ^ q = sym (mul-pow 4 (a * b) q ∙ ap (λ (x : ℕ). 4 ^ q * x) (mul-pow a b q)) in
          let right : ((a + b) * (a + b)) ^ q ≡ sum ^ (q + q) =
          mul-pow (a + b) (a + b) q ∙ sym (pow-add (a + b) q q) ∙ ap (λ (x : ℕ). x ^ (q + q)) (sym sum_is) in
          ends ((q + q) ^ (q + q) * whole) (4 ^ q * (q ^ q * p * (q ^ q * r))) (4 ^ q * (a ^ q * b ^ q)) ((4 * (a * b)) ^ q)
          (((a + b) * (a + b)) ^ q) (sum ^ (q + q)) left scaled middle squares right
        where
          turned : (f c p r : ℕ) → f * (c * c) * (p * r) ≡ f * (c * p * (c * r))
          turned f c p r = omega arith

          ends : (a b c d e f : ℕ) → a ≡ b → b ≤ c → c ≡ d → d ≤ e → e ≡ f → a ≤ f
          ends a b c d e f one two three four five = omega (arith, one, two, three, four, five)

  -- the blocks' places are all places
  blocks-sum : (q i : ℕ) → total (λ x. cond (not (marked (i * size + x))) 1 0) (q * size) ≡ sum_from i q
  unfolding sum_from total free_in
  blocks-sum zero i = let none : 0 * size ≡ 0 = omega arith in ap (total (λ x. cond (not (marked (i * size + x))) 1 0)) none
  blocks-sum (suc q) i =
      let more : suc q * size ≡ size + q * size = omega arith in
      ap (total (λ x. cond (not (marked (i * size + x))) 1 0)) more
      ∙ total-split (λ x. cond (not (marked (i * size + x))) 1 0) size (q * size)
      ∙ ap (λ (a : ℕ). total (λ x. cond (not (marked (i * size + x))) 1 0) size + a)
      (total-same (λ x. cond (not (marked (i * size + (size + x)))) 1 0) (λ x. cond (not (marked (suc i * size + x))) 1 0) (q * size)
      (λ x below. let same : i * size + (size + x) ≡ suc i * size + x = omega arith in ap (λ (y : ℕ). cond (not (marked y)) 1 0) same)
      ∙ blocks-sum q (suc i))

pub few_blocks_miss : FewBlocksMiss
few_blocks_miss m size marked =
    let product = lists-product size marked (2 ^ m) 0 in
    let most = means size marked m 0 in
    let sum = blocks-sum size marked (2 ^ m) 0 in
    let all : total (λ x. cond (not (marked (0 * size + x))) 1 0) (2 ^ m * size) ≡ marked_below (λ p. not (marked p)) (2 ^ m * size) =
    total-same (λ x. cond (not (marked (0 * size + x))) 1 0) (λ x. cond (not (marked x)) 1 0) (2 ^ m * size)
    (λ x below. let same : 0 * size + x ≡ x = omega arith in ap (λ (y : ℕ). cond (not (marked y)) 1 0) same) in
    let count = unmarked-count marked (2 ^ m * size) in
    let left : sum_from size marked 0 (2 ^ m) ≡ 2 ^ m * size - marked_below marked (2 ^ m * size) =
    sym sum ∙ all
    ∙ rest (marked_below (λ p. not (marked p)) (2 ^ m * size)) (marked_below marked (2 ^ m * size)) (2 ^ m * size) count in
    subst (λ (k : ℕ). (2 ^ m) ^ 2 ^ m * sum_lists (2 ^ m) size (λ numbers. cond (blocks_unmarked size marked 0 numbers) 1 0) ≤ k ^ 2 ^ m) left
    (subst (λ (k : ℕ). (2 ^ m) ^ 2 ^ m * k ≤ sum_from size marked 0 (2 ^ m) ^ 2 ^ m) (sym product) most)
  where
    rest : (a b n : ℕ) → a + b ≡ n → a ≡ n - b
    rest a b n is = omega (arith, is)

pub few_cheats_in_blocks : FewCheatsInBlocks
few_cheats_in_blocks width times size d m block generator wide field distance e lucky h word prover cheats few gap fits sends false_is =
    few-drawn width times wide field size (2 ^ m * block) generator e d distance few lucky gap h (2 ^ m) block ((2 ^ m) ^ 2 ^ m)
    (λ marked numbers. blocks_unmarked block marked 0 numbers) count word fits prover cheats sends false_is
  where
    free : (a b n : ℕ) → a + b ≡ n → n - b ≡ a
    free a b n is = omega (arith, is)

    count : (marked : ℕ → Bool) → (2 ^ m) ^ 2 ^ m * sum_lists (2 ^ m) block (λ numbers. cond (blocks_unmarked block marked 0 numbers) 1 0)
        ≤ marked_below (λ p. not (marked p)) (2 ^ m * block) ^ 2 ^ m
    count marked =
        subst (λ (k : ℕ). (2 ^ m) ^ 2 ^ m * sum_lists (2 ^ m) block (λ numbers. cond (blocks_unmarked block marked 0 numbers) 1 0) ≤ k ^ 2 ^ m)
        (free (marked_below (λ p. not (marked p)) (2 ^ m * block)) (marked_below marked (2 ^ m * block)) (2 ^ m * block)
        (unmarked-count marked (2 ^ m * block)))
        (few_blocks_miss m block marked)
