use Rattle.std.proofs.Common.{◌≡◌, ◌+◌, ◌*◌, ◌<◌, ℕ, length, slice_index}
use Rattle.shard_files.specs.Codes.{IsWordAt}
use Rattle.shard_files.proofs.words.read_words.Given as goal

abbrev pub invariant-loop-i : goal.invariant-loop-i
invariant-loop-i l =
    (length l.words ≡ length l.initial.words) × ((j : ℕ) → j < l.i → IsWordAt l.bytes (2 * (l.first + j)) (slice_index l.words j))
