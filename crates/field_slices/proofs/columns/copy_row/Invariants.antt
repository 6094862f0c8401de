use Rattle.std.proofs.Common.{◌+◌}
use Rattle.field_slices.specs.Matrices.{entry_of, put_entry}
use Rattle.field_slices.proofs.MatrixRows.{RowWritten}
use Rattle.field_slices.proofs.columns.copy_row.Given as goal

-- the entries before this column are done
abbrev pub invariant-loop-column : goal.invariant-loop-column
invariant-loop-column g l =
    let number = g.S.Scalars.number l.field in
    let copy = l.fn.copy in
    RowWritten (entry_of number copy.target_columns) copy.target_columns l.row
    (put_entry copy.to copy.count (λ k. entry_of number copy.columns l.source l.row (copy.from + k))
    (entry_of number copy.target_columns l.fn.target l.row))
    l.fn.target l.target l.column
