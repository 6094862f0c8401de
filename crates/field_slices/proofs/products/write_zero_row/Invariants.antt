use Rattle.field_slices.specs.Matrices.{entry_of}
use Rattle.field_slices.proofs.MatrixRows.{RowWritten}
use Rattle.field_slices.proofs.products.write_zero_row.Given as goal

-- the entries before this column are done
abbrev pub invariant-loop-column : goal.invariant-loop-column
invariant-loop-column g l =
    let number = g.S.Scalars.number l.field in
    RowWritten (entry_of number l.shape.columns) l.shape.columns l.row (λ j. 0) l.fn.target l.target l.column
