use Rattle.std.proofs.Common.{◌+◌}
use Rattle.field_slices.specs.Matrices.{entry_of, put_entry}
use Rattle.field_slices.proofs.MatrixRows.{RowsWritten}
use Rattle.field_slices.proofs.columns.copy_columns.Given as goal

-- the rows before this one are done
abbrev pub invariant-loop-row : goal.invariant-loop-row
invariant-loop-row g l =
    let number = g.S.Scalars.number l.field in
    let copy = l.copy in
    RowsWritten (entry_of number copy.target_columns) copy.target_columns
    (λ i. put_entry copy.to copy.count (λ k. entry_of number copy.columns l.source i (copy.from + k))
    (entry_of number copy.target_columns l.fn.target i))
    l.fn.target l.target l.row
