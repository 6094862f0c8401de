use Rattle.std.proofs.Common.{◌+◌, [], slice_index, slice_index_or}
use Rattle.reed_solomon.specs.Tables.{AreWritten}
use Rattle.reed_solomon.proofs.blocks.store_block.Given as goal

abbrev pub invariant-loop-row : goal.invariant-loop-row
invariant-loop-row g l =
    AreWritten (λ row lane. slice_index (slice_index_or l.sums row []) lane) (λ row. slice_index l.rows row + l.column) l.row 32 l.initial.out l.out
