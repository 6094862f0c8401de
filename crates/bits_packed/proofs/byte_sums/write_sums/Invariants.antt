use Rattle.std.proofs.Common.{◌≡◌, length}
use Rattle.bits_packed.specs.BytesAsBits.{block_entry, masked_sum}
use Rattle.bits_packed.proofs.BlockRows.{RowsSoFar}
use Rattle.bits_packed.proofs.byte_sums.write_sums.Given as goal

-- the rows before this one are written
abbrev pub invariant-loop-row : goal.invariant-loop-row
invariant-loop-row l =
    (length l.bits ≡ length l.fn.bits) × RowsSoFar l.row l.words
    (λ i j. masked_sum l.mask (block_entry l.block.width l.matrix l.block.row l.block.column l.block.columns i j)) l.bits
