use Rattle.std.proofs.Common.{◌≡◌, ℕ, ◌<◌, get_or, length}
use Rattle.many_words.proofs.powers.set_ones.Given as goal

-- the words before are 1
abbrev pub invariant-loop-place : goal.invariant-loop-place
invariant-loop-place g l =
    (length l.words ≡ length l.fn.words) × ((k : ℕ) → k < l.place → (d : _) → g.W.Reads.number (get_or l.words k d) ≡ 1)
