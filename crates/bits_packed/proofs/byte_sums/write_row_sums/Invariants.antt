use Rattle.std.proofs.Common.{◌+◌, ◌*◌}
use Rattle.bits_packed.specs.BytesAsBits.{AreBitsWritten, block_entry, masked_sum}
use Rattle.bits_packed.proofs.byte_sums.write_row_sums.Given as goal

-- the words before this one are written
abbrev pub invariant-loop-word : goal.invariant-loop-word
invariant-loop-word l =
    AreBitsWritten (l.row * l.words) l.word
    (λ w b. masked_sum l.mask (block_entry l.block.width l.matrix l.block.row l.block.column l.block.columns l.row (64 * w + b))) l.fn.bits l.bits
