-- A proof by eight cases.
use Rattle.std.proofs.Common.{ℕ, zero, suc, ◌<◌, arith}

-- what holds of 0 to 7 holds of each number below 8
pub eight_cases : (P : ℕ → Type 0) → P 0 → P 1 → P 2 → P 3 → P 4 → P 5 → P 6 → P 7 → (j : ℕ) → j < 8 → P j
eight_cases P a b c d e f g h zero within = a
eight_cases P a b c d e f g h (suc zero) within = b
eight_cases P a b c d e f g h (suc (suc zero)) within = c
eight_cases P a b c d e f g h (suc (suc (suc zero))) within = d
eight_cases P a b c d e f g h (suc (suc (suc (suc zero)))) within = e
eight_cases P a b c d e f g h (suc (suc (suc (suc (suc zero))))) within = f
eight_cases P a b c d e f g h (suc (suc (suc (suc (suc (suc zero)))))) within = g
eight_cases P a b c d e f g h (suc (suc (suc (suc (suc (suc (suc zero))))))) within = h
eight_cases P a b c d e f g h (suc (suc (suc (suc (suc (suc (suc (suc j)))))))) within = absurd (omega (arith, within))
