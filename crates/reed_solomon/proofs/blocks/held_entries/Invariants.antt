use Rattle.std.proofs.Common.{◌≡◌, ◌+◌, ◌<◌, ℕ, length, slice_index}
use Rattle.reed_solomon.proofs.blocks.held_entries.Given as goal

abbrev pub invariant-loop-i : goal.invariant-loop-i
invariant-loop-i l = (length l.held ≡ 256) × ((i : ℕ) → i < l.i → slice_index l.held i ≡ slice_index l.entries (l.first + i))
