use Rattle.std.proofs.Common.{◌≡◌, ◌<◌, ◌≤◌, ℕ, slice_index}
use Rattle.std.specs.Prelude.{bit_xor}
use Rattle.error_codes.proofs.interleaved.add_symbols.Given as goal

abbrev pub invariant-loop-c : goal.invariant-loop-c
invariant-loop-c l =
    ((n : ℕ) → n < l.c → slice_index l.values n ≡ bit_xor (slice_index l.initial.values n) (slice_index l.symbols n))
    × ((n : ℕ) → l.c ≤ n → slice_index l.values n ≡ slice_index l.initial.values n)
