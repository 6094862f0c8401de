use Rattle.std.proofs.Common.{◌<◌, ℕ, [], get_or}
use Rattle.transcripts.proofs.openings.count_below.Given as goal

-- the leaves so far are at places below the end
abbrev pub invariant-leaves : goal.invariant-leaves
invariant-leaves l = (k : ℕ) → k < l.index → (get_or l.leaves k (0, [])).0 < l.end
