use Rattle.field_slices.specs.Matrices.{entry_of}
use Rattle.field_slices.proofs.MatrixRows.{RowsWritten}
use Rattle.field_slices.proofs.products.transpose_into.Given as goal

-- the rows before this one are done
abbrev pub invariant-loop-row : goal.invariant-loop-row
invariant-loop-row g l =
    let number = g.S.Scalars.number l.field in
    RowsWritten (entry_of number l.rows) l.rows (λ i j. entry_of number l.columns l.source j i) l.fn.target l.target l.row
