use Rattle.field_slices.specs.Matrices.{IsRowWritten, entry_of, product_entry}
use Rattle.field_slices.proofs.products.write_product_row.Given as goal

-- the row is the sum of the products before this one
abbrev pub invariant-loop-k : goal.invariant-loop-k
invariant-loop-k g l =
    let number = g.S.Scalars.number l.field in
    let times = g.S.Scalars.product l.field in
    let columns = l.shape.columns in
    IsRowWritten (entry_of number columns) columns l.row
    (product_entry times l.k (entry_of number l.inner l.left) (entry_of number columns l.right) l.row)
    l.fn.target l.target
