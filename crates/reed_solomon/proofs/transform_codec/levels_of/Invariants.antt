use Rattle.std.proofs.Common.{ℕ, ◌^◌, ◌<◌}
use Rattle.reed_solomon.proofs.transform_codec.levels_of.Given as goal

-- no lower power is enough
abbrev pub invariant-loop-levels : goal.invariant-loop-levels
invariant-loop-levels l = (j : ℕ) → j < l.levels → 2 ^ j < l.k
