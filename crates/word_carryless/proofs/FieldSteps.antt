-- Steps that move the fields of a word, each by a shift and under a mask, one after another.
use Rattle.std.proofs.Common.{ℕ, List, [], ◌∷◌, refl, ◌∙◌, ap}
use Rattle.field_base.proofs.AdditiveMaps.{KeepsSums}

-- the steps with these shifts and masks, the first of the list first
unfoldable pub steps : (ℕ → ℕ → ℕ → ℕ) → List (ℕ × ℕ) → ℕ → ℕ
steps step [] x = x
steps step (s ∷ rest) x = steps step rest (step s.0 s.1 x)

-- where each step keeps sums, all of them do
pub steps-sum : (step : ℕ → ℕ → ℕ → ℕ) → ((shift mask : ℕ) → KeepsSums (step shift mask)) → (list : List (ℕ × ℕ))
    → KeepsSums (steps step list)
unfolding steps
steps-sum step one [] a b = refl
steps-sum step one (s ∷ rest) a b =
    ap (steps step rest) (one s.0 s.1 a b) ∙ steps-sum step one rest (step s.0 s.1 a) (step s.0 s.1 b)
