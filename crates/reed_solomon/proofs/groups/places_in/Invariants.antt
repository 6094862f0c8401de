use Rattle.std.proofs.Common.{◌≡◌, ◌+◌, ◌*◌, ◌<◌, ℕ, length, slice_index}
use Rattle.reed_solomon.proofs.groups.places_in.Given as goal

abbrev pub invariant-loop-i : goal.invariant-loop-i
invariant-loop-i l = (length l.starts ≡ 4) × ((i : ℕ) → i < l.i → slice_index l.starts i ≡ (l.first + i) * l.size + l.column)
