use Rattle.std.proofs.Common.{◌≡◌, ◌⊎◌, ◌+◌, ◌*◌, ◌<◌, ◌≤◌, ℕ, length, slice_index}
use Rattle.shard_files.specs.Codes.{IsWordAt}
use Rattle.shard_files.proofs.words.write_words.Given as goal

abbrev pub invariant-loop-i : goal.invariant-loop-i
invariant-loop-i l =
    (length l.bytes ≡ length l.initial.bytes)
    × ((j : ℕ) → j < l.i → IsWordAt l.bytes (2 * (l.first + j)) (slice_index l.words j))
    × ((place : ℕ) → (place < 2 * l.first) ⊎ (2 * (l.first + l.i) ≤ place) → slice_index l.bytes place ≡ slice_index l.initial.bytes place)
