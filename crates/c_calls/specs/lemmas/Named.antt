-- Fields by the words that name them.
use Rattle.std.proofs.Common.{◌≡◌, ℕ, subst}

-- what holds of a degree and a tail holds of them by other names
pub by-words : (degree tail : ℕ) {d t : ℕ} (P : ℕ → ℕ → Type 0) → d ≡ degree → t ≡ tail → P d t → P degree tail
by-words degree tail {t = t} P same_degree same_tail is =
    subst (λ (n : ℕ). P degree n) same_tail (subst (λ (n : ℕ). P n t) same_degree is)
