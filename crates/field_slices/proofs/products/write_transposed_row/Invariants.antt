use Rattle.field_slices.specs.Matrices.{entry_of}
use Rattle.field_slices.proofs.MatrixRows.{RowWritten}
use Rattle.field_slices.proofs.products.write_transposed_row.Given as goal

-- the entries before this column are done
abbrev pub invariant-loop-column : goal.invariant-loop-column
invariant-loop-column g l =
    let number = g.S.Scalars.number l.field in
    RowWritten (entry_of number l.shape.rows) l.shape.rows l.row (λ j. entry_of number l.shape.columns l.source j l.row) l.fn.target l.target l.column
