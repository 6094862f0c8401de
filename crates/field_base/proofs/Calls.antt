-- Lists that calls in order give, one more at a time, and the leave for these calls.
use Rattle.std.proofs.Common.{◌≡◌, ℕ, ◌+◌, List, [], ◌∷◌, ◌++◌, length, ◌<◌, refl, sym, subst, arith}
use Rattle.std.specs.Array.{FillsFrom, index_steps}
use Rattle.std.specs.Iterator.{CallableAtEachTurn}

-- what calls gave, and what one call more gives
pub fills_more : {S A : Type 0} (R : S → ℕ → A → S → Type 0) (s : S) (i : ℕ) (xs : List A) (t u : S) (x : A) (k : ℕ) → k ≡ i + length xs
    → FillsFrom R s i xs t → R t k x u → FillsFrom R s i (xs ++ x ∷ []) u
fills_more R s i [] t u x k last same step = (u, subst (λ p. R p i x u) (sym same) (subst (λ n. R t n x u) (omega arith) step), refl)
fills_more R s i (y ∷ ys) t u x k last fills step = (fills.0, fills.1, fills_more R fills.0 (i + 1) ys t u x k (omega arith) fills.2 step)

-- what may be called at each index from i on and below n, may be called at i
pub may_call : {S : Type 0} {R : S → ℕ → S → Type 0} {Q : S → ℕ → Type 0} {s : S} → (n i : ℕ) → i < n
    → CallableAtEachTurn (index_steps n) R Q i s → Q s i
may_call {s = s} n i inside may = may.at [] i s i (i + 1) refl refl (inside, refl, refl)

-- and at those from i + 1 on, after the call at i
pub may_go_on : {S : Type 0} {R : S → ℕ → S → Type 0} {Q : S → ℕ → Type 0} {s : S} → (n i : ℕ) → i < n
    → CallableAtEachTurn (index_steps n) R Q i s → (t : S) → R s i t → CallableAtEachTurn (index_steps n) R Q (i + 1) t
may_go_on n i inside may t call =
    record { at = λ xs u v x w given led next. may.at (i ∷ xs) u v x w (i + 1, (inside, refl, refl), given) (t, call, led) next }
