use Rattle.std.proofs.Common.{◌+◌, ◌*◌, slice_index}
use Rattle.std.specs.Prelude.{bit_xor}
use Rattle.std.specs.Simd.Lanes.{chunk}
use Rattle.word_tables.specs.Nibbles.{entry_sum}
use Rattle.error_codes.proofs.LaneRegisters.{RowsWritten}
use Rattle.error_codes.proofs.lanes.shift_rests.Given as goal

abbrev pub invariant-loop-j : goal.invariant-loop-j
invariant-loop-j l =
    RowsWritten (λ k lane. bit_xor (slice_index l.initial.rests (32 * (k + 1) + lane))
    (entry_sum (chunk (32 * (k + 1)) 16 l.tables) (chunk (32 * (k + 1) + 16) 16 l.tables) (slice_index l.factors lane))) l.j
    l.initial.rests l.rests
