use Rattle.std.proofs.Common.{◌+◌}
use Rattle.std.specs.Prelude.{bit_xor, slice_index}
use Rattle.bits_packed.specs.BitMatrices.{IsRangeWritten}
use Rattle.bits_packed.proofs.rows.add_words.Given as goal

-- the words before this one are added
abbrev pub invariant-loop-place : goal.invariant-loop-place
invariant-loop-place l =
    IsRangeWritten l.first l.place (λ p. bit_xor (slice_index l.fn.target (l.first + p)) (slice_index l.sums p)) l.fn.target l.target
