-- Levels of the tower as vector spaces over levels inside them: how many coefficients there are. It stands here since that
-- implementation of the traits cites it.
use Rattle.std.proofs.Common.{◌≡◌, ℕ, ◌+◌, ◌-◌, ◌*◌, ◌^◌, ◌<◌, ◌≤◌, sym, ◌∙◌, ap, subst, arith}
use Rattle.std.proofs.lemmas.Nat.{pow-add, pow_pos}

-- a level has some coefficients over one below it
pub dimension_positive : (k j count : ℕ) → count ≡ 2 ^ (k - j) → 0 < count
dimension_positive k j count is = subst (λ (n : ℕ). 0 < n) (sym is) (pow_pos (k - j))

-- which together have its bits
pub dimension_bits : (k j count : ℕ) → count ≡ 2 ^ (k - j) → j ≤ k → 2 ^ k ≡ 2 ^ j * count
dimension_bits k j count is inside =
    let level : k ≡ j + (k - j) = omega (arith, inside) in
    ap (λ (l : ℕ). 2 ^ l) level ∙ pow-add 2 j (k - j) ∙ ap (λ (n : ℕ). 2 ^ j * n) (sym is)
