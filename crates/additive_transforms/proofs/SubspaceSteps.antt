-- s_j as it is computed, from the one before it.
use Rattle.std.proofs.Common.{◌≡◌, ℕ, suc, ◌+◌, refl, ◌∙◌, ap, arith}
use Rattle.std.specs.Prelude.{bit_xor}
use Rattle.ghash_slices.specs.Cantor.{subspace_value}

-- s_0 is its argument
pub first_subspace_value : (times : ℕ → ℕ → ℕ) (z : ℕ) → z ≡ subspace_value times 0 z
unfolding subspace_value
first_subspace_value times z = refl

one_more : (times : ℕ → ℕ → ℕ) (z j : ℕ)
    → bit_xor (times (subspace_value times j z) (subspace_value times j z)) (subspace_value times j z) ≡ subspace_value times (suc j) z
unfolding subspace_value
one_more times z j = refl

-- and each further one is the sum of the one before it and its square
pub next_subspace_value : (times : ℕ → ℕ → ℕ) (z j before square after : ℕ) → before ≡ subspace_value times j z → square ≡ times before before
    → after ≡ bit_xor square before → after ≡ subspace_value times (j + 1) z
next_subspace_value times z j before square after is square_is after_is =
    let next : suc j ≡ j + 1 = omega arith in
    after_is ∙ ap (λ (x : ℕ). bit_xor x before) square_is ∙ ap (λ (x : ℕ). bit_xor (times x x) x) is ∙ one_more times z j
    ∙ ap (λ (n : ℕ). subspace_value times n z) next
