use Rattle.std.proofs.Common.{◌≤◌}
use Rattle.field_slices.specs.Matrices.{entry_of}
use Rattle.field_slices.proofs.Elimination.{cleared_from}
use Rattle.field_slices.proofs.MatrixRows.{RowsWritten}
use Rattle.field_slices.proofs.reduction.clear_column.Given as goal

-- the rows before this one are done
abbrev pub invariant-loop-other : goal.invariant-loop-other
invariant-loop-other g l =
    let number = g.S.Scalars.number l.field in
    let times = g.S.Scalars.product l.field in
    let columns = l.shape.columns in
    (l.from ≤ l.other)
    × RowsWritten (entry_of number columns) columns (cleared_from times l.from l.row l.column (entry_of number columns l.fn.matrix))
    l.fn.matrix l.matrix l.other
