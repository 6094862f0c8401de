use Rattle.std.proofs.Common.{◌≡◌, ◌<◌, ◌≤◌, ◌+◌, ℕ, slice_index}
use Rattle.std.specs.Prelude.{bit_and, bit_xor}
use Rattle.error_codes.proofs.binary_bch.shift_bits.Given as goal

abbrev pub invariant-loop-j : goal.invariant-loop-j
invariant-loop-j l =
    ((n : ℕ) → n < l.j → slice_index l.rest n
    ≡ bit_xor (slice_index l.initial.rest (n + 1)) (bit_and l.factor (slice_index l.generator (n + 1))))
    × ((n : ℕ) → l.j ≤ n → slice_index l.rest n ≡ slice_index l.initial.rest n)
