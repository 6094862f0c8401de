use Rattle.std.proofs.Common.{◌≡◌, ◌<◌, ◌≤◌, ◌+◌, ℕ, length, slice_index}
use Rattle.std.specs.Prelude.{bit_xor}
use Rattle.error_codes.proofs.field_code.filling.multiply_sums.Given as goal

abbrev pub invariant-loop-m : goal.invariant-loop-m
invariant-loop-m g l =
    (length l.sums ≡ length l.initial.sums)
    × ((n : ℕ) → n < l.m → slice_index l.sums n
    ≡ bit_xor (slice_index l.initial.sums (n + 1)) (g.F.SymbolField.product l.field l.point (slice_index l.initial.sums n)))
    × ((n : ℕ) → l.m ≤ n → slice_index l.sums n ≡ slice_index l.initial.sums n)
