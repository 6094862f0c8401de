use Rattle.std.proofs.Common.{◌≡◌, ◌+◌, ◌<◌, ℕ, length, get_or}
use Rattle.bit_slices.proofs.blocks.padded.Given as goal

-- the words before this lane are there
abbrev pub invariant-loop-lane : goal.invariant-loop-lane
invariant-loop-lane g l =
    (length l.block ≡ 128) × ((n : ℕ) → n < l.lane → (d : g.row.W.Denot) → get_or l.block n d ≡ get_or l.words (l.start + n) d)
