use Rattle.std.proofs.Common.{◌≡◌, ◌-◌, ◌<◌, ◌≤◌, ℕ, length, get_or}
use Rattle.bit_slices.proofs.blocks.change_padded.Given as goal

-- the words from the start up to this place are those of the block, and the others are as they were
abbrev pub invariant-loop-place : goal.invariant-loop-place
invariant-loop-place g l =
    (length l.words ≡ length l.fn.words) × ((k : ℕ) → k < l.start → (d : g.row.W.Denot) → get_or l.words k d ≡ get_or l.fn.words k d)
    × ((k : ℕ) → l.start ≤ k → k < l.place → (d : g.row.W.Denot) → get_or l.words k d ≡ get_or l.block (k - l.start) d)
