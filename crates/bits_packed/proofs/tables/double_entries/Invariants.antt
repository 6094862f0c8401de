use Rattle.std.proofs.Common.{◌+◌, ◌%◌}
use Rattle.std.specs.Prelude.{bit_xor, slice_index}
use Rattle.bits_packed.specs.BitMatrices.{IsRangeWritten}
use Rattle.bits_packed.proofs.tables.double_entries.Given as goal

-- the words before this one are written
abbrev pub invariant-loop-place : goal.invariant-loop-place
invariant-loop-place l =
    IsRangeWritten (l.first + l.count) l.place
    (λ p. bit_xor (slice_index l.fn.tables (l.first + p)) (slice_index l.row (p % 8))) l.fn.tables l.tables
