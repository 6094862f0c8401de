use Rattle.std.proofs.Common.{◌≡◌, ◌+◌, ◌<◌, ℕ, length, slice_index}
use Rattle.reed_solomon.proofs.blocks.held_places.Given as goal

abbrev pub invariant-loop-i : goal.invariant-loop-i
invariant-loop-i g l = (length l.held ≡ g.row.N) × ((i : ℕ) → i < l.i → slice_index l.held i ≡ slice_index l.places (l.first + i))
