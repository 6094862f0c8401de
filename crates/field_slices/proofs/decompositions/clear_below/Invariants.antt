use Rattle.std.proofs.Common.{◌+◌, ◌≤◌}
use Rattle.field_slices.specs.Matrices.{entry_of}
use Rattle.field_slices.proofs.MatrixRows.{RowsWritten}
use Rattle.field_slices.proofs.TriangularSteps.{cleared_below}
use Rattle.field_slices.proofs.decompositions.clear_below.Given as goal

-- the rows before this one are done
abbrev pub invariant-loop-row : goal.invariant-loop-row
invariant-loop-row g l =
    let number = g.S.Scalars.number l.field in
    let times = g.S.Scalars.product l.field in
    (l.column + 1 ≤ l.row)
    × RowsWritten (entry_of number l.shape.columns) l.shape.columns (cleared_below times l.column (entry_of number l.shape.rows l.lower)
    (entry_of number l.shape.columns l.fn.matrix)) l.fn.matrix l.matrix l.row
