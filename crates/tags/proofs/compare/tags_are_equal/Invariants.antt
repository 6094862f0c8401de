use Rattle.std.proofs.Common.{◌≡◌, ℕ, ◌<◌, get_or}
use Rattle.tags.proofs.compare.tags_are_equal.Given as goal

-- nothing differs exactly when the bytes before are the same
abbrev pub invariant-bytes : goal.invariant-bytes
invariant-bytes l =
    (l.difference ≡ 0 → (k : ℕ) → k < l.i → get_or l.left k 0 ≡ get_or l.right k 0) × (l.left ≡ l.right → l.difference ≡ 0)
