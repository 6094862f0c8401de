-- What the stages leave: sums of values times products of factors.
use Rattle.std.proofs.Common.{◌≡◌, ℕ, zero, suc, ◌+◌, ◌*◌, ◌/◌, ◌%◌, ◌^◌, ◌<◌, ◌≤◌, refl, sym, ◌∙◌, ap, ap₂, arith}
use Rattle.std.specs.Prelude.{bit_xor}
use Rattle.std.specs.Int.{bit_at}
use Rattle.std.proofs.Math.Nat.{two-pow-succ}
use Rattle.std.proofs.lemmas.Nat.{pow_below}
use Rattle.std.proofs.lemmas.Nat.Bits.{bit_at_above}
use native.Mathlib.Nat.{mod-eq_of_lt}
use lib.Bits.{xor_assoc, xor_comm, xor_zero_r}
use Rattle.field_base.specs.Basis.{sum_below, product_below}
use Rattle.field_base.specs.Powers.{power}
use Rattle.field_base.specs.Ring.{IsRing}
use Rattle.field_base.proofs.BasisSums.{sum_below-add, sum_below-same, product_below-same, bit_at_with-low, bit_at_with-top}
use Rattle.field_base.proofs.RingLemmas.{sum_times, times-mod, xor_left_comm}
use Rattle.ghash_slices.specs.Stages.{factors_at, sum_of_factors, stage, stages, StagesGiveSums}
use Rattle.ghash_slices.proofs.Places.{block_quotient, lower_in_block, upper_in_block}

-- ---- sums

-- a sum of sums, term by term
pub sum_below-xor : (f g : ℕ → ℕ) (n : ℕ) → bit_xor (sum_below f n) (sum_below g n) ≡ sum_below (λ k. bit_xor (f k) (g k)) n
unfolding sum_below
sum_below-xor f g zero = refl
sum_below-xor f g (suc n) =
    xor_assoc (sum_below f n) (f n) (bit_xor (sum_below g n) (g n))
    ∙ ap (bit_xor (sum_below f n)) (xor_left_comm (f n) (sum_below g n) (g n))
    ∙ sym (xor_assoc (sum_below f n) (sum_below g n) (bit_xor (f n) (g n)))
    ∙ ap (λ (x : ℕ). bit_xor x (bit_xor (f n) (g n))) (sum_below-xor f g n)

-- ---- sums of values times factors

-- values that agree below 2 ^ n give the same sum
pub sum_of_factors-values : (times : ℕ → ℕ → ℕ) (f : ℕ → ℕ) (n : ℕ) (c d : ℕ → ℕ) → ((k : ℕ) → k < 2 ^ n → c k ≡ d k)
    → sum_of_factors times f n c ≡ sum_of_factors times f n d
unfolding sum_of_factors
sum_of_factors-values times f n c d same =
    sum_below-same (λ k. times (c k) (factors_at times f n k)) (λ k. times (d k) (factors_at times f n k)) (2 ^ n)
    (λ k below. ap (λ (x : ℕ). times x (factors_at times f n k)) (same k below))

-- factors that agree at the first n stages give the same sum
pub sum_of_factors-same : (times : ℕ → ℕ → ℕ) (f g : ℕ → ℕ) (n : ℕ) (c : ℕ → ℕ) → ((j : ℕ) → j < n → f j ≡ g j)
    → sum_of_factors times f n c ≡ sum_of_factors times g n c
unfolding sum_of_factors factors_at
sum_of_factors-same times f g n c same =
    sum_below-same (λ k. times (c k) (factors_at times f n k)) (λ k. times (c k) (factors_at times g n k)) (2 ^ n)
    (λ k below. ap (times (c k))
    (product_below-same times (λ j. power 1 times (f j) (bit_at k j)) (λ j. power 1 times (g j) (bit_at k j)) n
    (λ j lower. ap (λ (x : ℕ). power 1 times x (bit_at k j)) (same j lower))))

module _ (width : ℕ) (times : ℕ → ℕ → ℕ) (wide : 0 < width) (ring : IsRing width 1 times) where
  -- a product of factors is an element
  factors_at-lt : (f : ℕ → ℕ) (n k : ℕ) → factors_at times f n k < 2 ^ width
  unfolding factors_at product_below
  factors_at-lt f zero k = pow_below 0 width wide
  factors_at-lt f (suc n) k = ring.below _ _

  -- the factors at the places of a block of 2 ^ (n + 1): at the lower ones those of 2 ^ n, and at the upper ones one more
  factors_at-low : (f : ℕ → ℕ) (n k : ℕ) → k < 2 ^ n → factors_at times f (suc n) k ≡ factors_at times f n k
  unfolding factors_at product_below power
  factors_at-low f n k below =
      let same : n ≤ n = omega arith in
      ap (λ (e : ℕ). times (factors_at times f n k) (power 1 times (f n) e)) (bit_at_above k n n below same)
      ∙ ring.comm (factors_at times f n k) 1 ∙ ring.one (factors_at times f n k) ∙ mod-eq_of_lt (factors_at-lt f n k)

  -- with bit n of the place set, the product has one more factor, that of stage n
  factors_at-high : (f : ℕ → ℕ) (n k : ℕ) → k < 2 ^ n → factors_at times f (suc n) (2 ^ n + k) ≡ times (factors_at times f n k) (f n)
  unfolding factors_at product_below power
  factors_at-high f n k below =
      ap₂ times
      (product_below-same times (λ j. power 1 times (f j) (bit_at (2 ^ n + k) j)) (λ j. power 1 times (f j) (bit_at k j)) n
      (λ j lower. ap (power 1 times (f j)) (bit_at_with-low n k j lower)))
      (ap (power 1 times (f n)) (bit_at_with-top n k below) ∙ ring.one (f n))
      ∙ times-mod width 1 times ring (factors_at times f n k) (f n)

  -- a sum over 2 ^ (n + 1) values is one over 2 ^ n values, each with the value 2 ^ n places further times factor n
  pub sum_of_factors-next : (f : ℕ → ℕ) (n : ℕ) (c : ℕ → ℕ)
      → sum_of_factors times f (suc n) c ≡ sum_of_factors times f n (λ k. bit_xor (c k) (times (f n) (c (2 ^ n + k))))
  unfolding sum_of_factors
  sum_of_factors-next f n c =
      ap (sum_below (λ k. times (c k) (factors_at times f (suc n) k))) (two-pow-succ n)
      ∙ sum_below-add (λ k. times (c k) (factors_at times f (suc n) k)) (2 ^ n) (2 ^ n)
      ∙ ap₂ bit_xor
      (sum_below-same (λ k. times (c k) (factors_at times f (suc n) k)) (λ k. times (c k) (factors_at times f n k)) (2 ^ n)
      (λ k below. ap (times (c k)) (factors_at-low f n k below)))
      (sum_below-same (λ k. times (c (2 ^ n + k)) (factors_at times f (suc n) (2 ^ n + k)))
      (λ k. times (times (f n) (c (2 ^ n + k))) (factors_at times f n k)) (2 ^ n)
      (λ k below. ap (times (c (2 ^ n + k))) (factors_at-high f n k below) ∙ order (c (2 ^ n + k)) (factors_at times f n k) (f n)))
      ∙ sum_below-xor (λ k. times (c k) (factors_at times f n k)) (λ k. times (times (f n) (c (2 ^ n + k))) (factors_at times f n k)) (2 ^ n)
      ∙ sum_below-same (λ k. bit_xor (times (c k) (factors_at times f n k)) (times (times (f n) (c (2 ^ n + k))) (factors_at times f n k)))
      (λ k. times (bit_xor (c k) (times (f n) (c (2 ^ n + k)))) (factors_at times f n k)) (2 ^ n)
      (λ k below. sym (sum_times width 1 times ring (c k) (times (f n) (c (2 ^ n + k))) (factors_at times f n k)))
    where
      order : (a b d : ℕ) → times a (times b d) ≡ times (times d a) b
      order a b d = sym (ring.assoc a b d) ∙ ring.comm (times a b) d ∙ sym (ring.assoc d a b)

  -- one value is its own sum
  sum_of_factors-one : (f : ℕ → ℕ) (c : ℕ → ℕ) → sum_of_factors times f 0 c ≡ c 0 % 2 ^ width
  unfolding sum_of_factors factors_at sum_below product_below
  sum_of_factors-one f c =
      xor_comm 0 (times (c 0) 1) ∙ xor_zero_r (times (c 0) 1) ∙ ring.comm (c 0) 1 ∙ ring.one (c 0)

  -- ---- stages

  module _ (f : ℕ → ℕ → ℕ) (by_quotient : (j p q : ℕ) → p / 2 ^ j ≡ q / 2 ^ j → f j p ≡ f j q) where
    -- a stage at place k of the block of p
    stage-in_block : (n : ℕ) (a : ℕ → ℕ) (p k : ℕ) → k < 2 ^ n
        → stage times f n a (p / 2 ^ n * 2 ^ n + k)
        ≡ bit_xor (a (p / 2 ^ suc n * 2 ^ suc n + k)) (times (f n p) (a (p / 2 ^ suc n * 2 ^ suc n + (2 ^ n + k))))
    unfolding stage
    stage-in_block n a p k below =
        ap₂ bit_xor (ap a (lower_in_block n p k below))
        (ap₂ times (by_quotient n (p / 2 ^ n * 2 ^ n + k) p (block_quotient n p k below)) (ap a (upper_in_block n p k below)))

    pub stages_sum : (n : ℕ) (a : ℕ → ℕ) (p : ℕ)
        → stages times f n a p % 2 ^ width ≡ sum_of_factors times (λ j. f j p) n (λ k. a (p / 2 ^ n * 2 ^ n + k))
    unfolding stages
    stages_sum zero a p =
        let itself : p / 2 ^ 0 * 2 ^ 0 + 0 ≡ p = omega arith in
        ap (λ (q : ℕ). a q % 2 ^ width) (sym itself) ∙ sym (sum_of_factors-one (λ j. f j p) (λ k. a (p / 2 ^ 0 * 2 ^ 0 + k)))
    stages_sum (suc n) a p =
        stages_sum n (stage times f n a) p
        ∙ sum_of_factors-values times (λ j. f j p) n (λ k. stage times f n a (p / 2 ^ n * 2 ^ n + k))
        (λ k. bit_xor (a (p / 2 ^ suc n * 2 ^ suc n + k)) (times (f n p) (a (p / 2 ^ suc n * 2 ^ suc n + (2 ^ n + k)))))
        (λ k below. stage-in_block n a p k below)
        ∙ sym (sum_of_factors-next (λ j. f j p) n (λ k. a (p / 2 ^ suc n * 2 ^ suc n + k)))

-- by induction on the number of stages: what n stages leave at a place is the sum of its block, each value times the factors at
-- its bits
pub stages_give_sums : StagesGiveSums
stages_give_sums = stages_sum
