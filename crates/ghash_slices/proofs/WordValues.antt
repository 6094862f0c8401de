-- Numbers of 128 bits as words.
use Rattle.std.proofs.Common.{ℕ, List, map, subst}
use Rattle.std.proofs.lemmas.List.{map-id}

-- what holds of the numbers that numbers hold as words holds of themselves
pub of_own : (P : List ℕ → List ℕ → Type 0) (old new : List ℕ) → P (map (λ x. x) old) (map (λ x. x) new) → P old new
of_own P old new holds = subst (λ (l : List ℕ). P l new) (map-id old) (subst (P (map (λ x. x) old)) (map-id new) holds)
