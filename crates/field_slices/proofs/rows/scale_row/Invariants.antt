use Rattle.field_slices.specs.Matrices.{entry_of}
use Rattle.field_slices.proofs.MatrixRows.{RowWritten}
use Rattle.field_slices.proofs.rows.scale_row.Given as goal

-- the entries before this column are done
abbrev pub invariant-loop-column : goal.invariant-loop-column
invariant-loop-column g l =
    let number = g.S.Scalars.number l.field in
    let times = g.S.Scalars.product l.field in
    let columns = l.shape.columns in
    RowWritten (entry_of number columns) columns l.row
    (λ j. times (number l.scalar) (entry_of number columns l.fn.matrix l.row j)) l.fn.matrix l.matrix l.column
