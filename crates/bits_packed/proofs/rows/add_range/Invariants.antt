use Rattle.std.proofs.Common.{◌+◌, ◌*◌}
use Rattle.std.specs.Prelude.{bit_xor, slice_index}
use Rattle.bits_packed.specs.BitMatrices.{IsRangeWritten}
use Rattle.bits_packed.proofs.rows.add_range.Given as goal

-- the words before this strip are added
abbrev pub invariant-loop-strip : goal.invariant-loop-strip
invariant-loop-strip l =
    IsRangeWritten l.to (8 * l.strip) (λ p. bit_xor (slice_index l.fn.words (l.to + p)) (slice_index l.fn.words (l.from + p)))
    l.fn.words l.words
