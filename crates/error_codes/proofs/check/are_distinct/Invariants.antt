use Rattle.std.proofs.Common.{◌≢◌, ◌<◌, ℕ, slice_index}
use Rattle.error_codes.proofs.check.are_distinct.Given as goal

-- no two of the indexes before are equal
abbrev pub invariant-loop-j : goal.invariant-loop-j
invariant-loop-j l = (i k : ℕ) → i < k → k < l.j → slice_index l.indexes i ≢ slice_index l.indexes k
