-- Parts of arrays that are written.
use Rattle.std.proofs.Common.{◌≡◌, inl, inr, ℕ, ◌+◌, ◌-◌, ◌<◌, ◌≤◌, List, ◌++◌, drop, get_or, length, replicate, ◌∙◌, arith}
use Rattle.std.proofs.lemmas.Bool.{cases_lt}
use Rattle.std.proofs.lemmas.List.{get_or-append_right, get_or-drop, get_or-replicate, get_or_append_left, get_or_past, length-replicate}

-- in the first k entries
pub front-written : {A : Type 0} (k : ℕ) (row new : List A) (i : ℕ) (d : A) → length new ≡ k → i < k
    → get_or (new ++ drop k row) i d ≡ get_or new i d
front-written k row new i d long below = get_or_append_left new (drop k row) d i (omega (arith, long, below))

-- and behind them
pub behind-left : {A : Type 0} (n k : ℕ) (new : List A) (i : ℕ) (d : A) → length new ≡ k → k ≤ i
    → get_or (new ++ drop k (replicate n d)) i d ≡ d
behind-left {A} n k new i d long above =
    get_or-append_right new (drop k (replicate n d)) k i d long above ∙ get_or-drop k (replicate n d) (i - k) d
    ∙ elim (cases_lt (k + (i - k)) n) [
      | inl inside ↦ get_or-replicate n (k + (i - k)) d d inside
      | inr past ↦
          get_or_past (replicate n d) (k + (i - k)) d
          (let size = length-replicate {A = A} n d in omega (arith, past, size))
    ]
