use Rattle.std.proofs.Common.{◌≡◌, ◌<◌, ◌≤◌, ℕ, length, slice_index}
use Rattle.error_codes.proofs.field_code.encoding.clear_from.Given as goal

abbrev pub invariant-loop-i : goal.invariant-loop-i
invariant-loop-i l =
    (length l.word ≡ length l.initial.word)
    × ((n : ℕ) → n < l.start → slice_index l.word n ≡ slice_index l.initial.word n)
    × ((n : ℕ) → l.start ≤ n → n < l.i → slice_index l.word n ≡ 0)
