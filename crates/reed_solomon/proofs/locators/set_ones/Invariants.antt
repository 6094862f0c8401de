use Rattle.std.proofs.Common.{◌≡◌, ◌<◌, ℕ, slice_index_or}
use Rattle.reed_solomon.proofs.locators.set_ones.Given as goal

-- so many words are 1
abbrev pub invariant-loop-i : goal.invariant-loop-i
invariant-loop-i g l = (s : ℕ) → s < l.i → slice_index_or l.words s g.R.Stored.ZERO ≡ g.R.Stored.ONE
