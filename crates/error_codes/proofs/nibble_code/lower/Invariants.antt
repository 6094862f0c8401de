use Rattle.std.proofs.Common.{◌≡◌, ◌<◌, ◌≤◌, ℕ, slice_index}
use Rattle.error_codes.specs.Nibbles.{lowered}
use Rattle.error_codes.proofs.nibble_code.lower.Given as goal

abbrev pub invariant-loop-i : goal.invariant-loop-i
invariant-loop-i l =
    ((n : ℕ) → n < l.i → slice_index l.word n ≡ lowered (slice_index l.initial.word n))
    × ((n : ℕ) → l.i ≤ n → slice_index l.word n ≡ slice_index l.initial.word n)
