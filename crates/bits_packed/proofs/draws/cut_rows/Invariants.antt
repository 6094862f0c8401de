use Rattle.std.proofs.Common.{◌*◌}
use Rattle.bits_packed.specs.BitMatrices.{bit_entry, kept_before}
use Rattle.field_slices.proofs.MatrixRows.{RowsWritten}
use Rattle.bits_packed.proofs.draws.cut_rows.Given as goal

-- the rows before this one are done
abbrev pub invariant-loop-row : goal.invariant-loop-row
invariant-loop-row l =
    RowsWritten (bit_entry l.shape.words) (64 * l.shape.words) (λ i. kept_before l.column (bit_entry l.shape.words l.fn.matrix i)) l.fn.matrix l.matrix l.row
