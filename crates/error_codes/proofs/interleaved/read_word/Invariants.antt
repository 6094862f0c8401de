use Rattle.std.proofs.Common.{◌≡◌, ◌<◌, ◌+◌, ◌*◌, ℕ, length, slice_index}
use Rattle.error_codes.proofs.interleaved.read_word.Given as goal

abbrev pub invariant-loop-i : goal.invariant-loop-i
invariant-loop-i l =
    (length l.word ≡ length l.initial.word)
    × ((k : ℕ) → k < l.i → slice_index l.word k ≡ slice_index l.symbols (k * l.depth + l.c))
