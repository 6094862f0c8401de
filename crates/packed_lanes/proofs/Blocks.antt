-- Blocks of lanes: an even block, but where it is all of the lanes, is followed by another.
use Rattle.std.proofs.Common.{rules, List, length, slice_index_or, ◌≡◌, ◌≢◌, ◌⊎◌, inl, inr, ℕ, ◌+◌, ◌*◌, ◌/◌, ◌%◌, ◌^◌, ◌<◌, ◌≤◌, ◌-◌, sym, ◌∙◌, ap, subst, arith}
use Rattle.std.proofs.Math.Nat.{div-add-mod, div-lt_iff_lt-mul, mul-add, mul-le-mul_left, mul_comm}
use Rattle.std.proofs.Math.Pow.{pow_mono}
use Rattle.std.proofs.lemmas.Bool.{cases_lt}
use Rattle.std.proofs.lemmas.Nat.{pow-add, pow_pos}
use native.Mathlib.Nat.{mod-lt}
use Rattle.packed_lanes.specs.Lanes.{IsPowerOfTwo, interleaved_second}

-- in c pairs of blocks of b lanes an even block is followed by another
next_block : (b c lane : ℕ) → 0 < b → lane < b * (2 * c) → lane / b % 2 ≡ 0 → lane + b < b * (2 * c)
next_block b c lane some within even =
    let turned : b * (2 * c) ≡ 2 * c * b = mul_comm b (2 * c) in
    let block : lane / b < 2 * c = (div-lt_iff_lt-mul {k = b} {x = lane} {y = 2 * c} some).1 (subst (λ (m : ℕ). lane < m) turned within) in
    let pair : lane / b + 2 ≤ 2 * c = omega (arith, block, even) in
    let place : b * (lane / b) + lane % b ≡ lane = div-add-mod lane b in
    let rest : lane % b < b = mod-lt lane some in
    let grown : b * (lane / b + 2) ≤ b * (2 * c) = mul-le-mul_left b pair in
    let spread : b * (lane / b + 2) ≡ b * (lane / b) + b * 2 = mul-add b (lane / b) 2 in
    omega (arith, place, rest, grown, spread)

-- 2 ^ (k + 1 + j) lanes are 2 ^ j pairs of blocks of 2 ^ k lanes
more_blocks : (k j : ℕ) → 2 ^ (k + (1 + j)) ≡ 2 ^ k * (2 * 2 ^ j)
more_blocks k j = pow-add 2 k (1 + j) ∙ ap (λ (m : ℕ). 2 ^ k * m) (pow-add 2 1 j)

-- an even block of b lanes, where n is not b, is followed by another block within the n lanes
pub block_fits : (n b lane : ℕ) → IsPowerOfTwo n → IsPowerOfTwo b → b ≤ n → b ≢ n → lane < n → lane / b % 2 ≡ 0 → lane + b < n
block_fits n b lane (m, n_is) (k, b_is) few other within even = pick (cases_lt k m)
  where
    pick : (k < m) ⊎ (m ≤ k) → lane + b < n
    pick (inl less) =
        let places : k + (1 + (m - (k + 1))) ≡ m = omega (arith, less) in
        let whole : b * (2 * 2 ^ (m - (k + 1))) ≡ n =
        ap (λ (x : ℕ). x * (2 * 2 ^ (m - (k + 1)))) b_is ∙ sym (more_blocks k (m - (k + 1))) ∙ ap (λ (x : ℕ). 2 ^ x) places ∙ sym n_is in
        let above = pow_pos k in
        let some : 0 < b = omega (arith, b_is, above) in
        subst (λ (x : ℕ). lane + b < x) whole
        (next_block b (2 ^ (m - (k + 1))) lane some (subst (λ (x : ℕ). lane < x) (sym whole) within) even)
    pick (inr more) =
        let all : 2 ^ m ≤ 2 ^ k = pow_mono {i = m} {j = k} more in
        let same : b ≡ n = omega (arith, all, few, b_is, n_is) in
        absurd (other same)

-- the lane of the second result in an even block, where the block is not all of the lanes
pub after_a_block : {A : Type 0} → (b : ℕ) (left right : List A) (d : A) (i : ℕ) → b ≢ length left → i / b % 2 ≡ 0
    → interleaved_second b left right d i ≡ slice_index_or left (i + b) d
after_a_block b left right d i other even = search rules
