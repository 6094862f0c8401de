use Rattle.std.proofs.Common.{◌+◌, slice_index}
use Rattle.reed_solomon.specs.Tables.{AreWritten}
use Rattle.reed_solomon.proofs.blocks.store_column.Given as goal

abbrev pub invariant-loop-row : goal.invariant-loop-row
invariant-loop-row g l =
    AreWritten (λ row lane. slice_index l.sums row) (λ row. slice_index l.rows row + l.column) l.row 1 l.initial.out l.out
