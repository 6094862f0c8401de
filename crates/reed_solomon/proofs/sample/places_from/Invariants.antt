use Rattle.std.proofs.Common.{◌≡◌, ◌+◌, ◌<◌, ℕ, length, slice_index}
use Rattle.reed_solomon.proofs.sample.places_from.Given as goal

abbrev pub invariant-loop-i : goal.invariant-loop-i
invariant-loop-i l = (length l.places ≡ 256) × ((i : ℕ) → i < l.i → slice_index l.places i ≡ l.first + i)
