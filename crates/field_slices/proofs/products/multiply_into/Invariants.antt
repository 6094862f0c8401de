use Rattle.field_slices.specs.Matrices.{entry_of, product_entry}
use Rattle.field_slices.proofs.MatrixRows.{RowsWritten}
use Rattle.field_slices.proofs.products.multiply_into.Given as goal

-- the rows before this one are done
abbrev pub invariant-loop-row : goal.invariant-loop-row
invariant-loop-row g l =
    let number = g.S.Scalars.number l.field in
    let times = g.S.Scalars.product l.field in
    RowsWritten (entry_of number l.columns) l.columns
    (product_entry times l.inner (entry_of number l.inner l.left) (entry_of number l.columns l.right))
    l.fn.target l.target l.row
