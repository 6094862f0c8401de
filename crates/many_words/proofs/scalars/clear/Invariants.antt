use Rattle.std.proofs.Common.{◌≡◌, ℕ, ◌<◌, get_or}
use Rattle.many_words.proofs.scalars.clear.Given as goal

-- the words before are 0
abbrev pub invariant-loop-place : goal.invariant-loop-place
invariant-loop-place g l = (k : ℕ) → k < l.place → (d : _) → g.W.Reads.number (get_or l.words k d) ≡ 0
