use Rattle.field_slices.specs.Matrices.{beside_identity, entry_of}
use Rattle.field_slices.proofs.MatrixRows.{RowsWritten}
use Rattle.field_slices.proofs.identities.write_identity.Given as goal

-- the rows before this one are done
abbrev pub invariant-loop-row : goal.invariant-loop-row
invariant-loop-row g l =
    let number = g.S.Scalars.number l.field in
    let columns = l.shape.columns in
    RowsWritten (entry_of number columns) columns (beside_identity l.from (entry_of number columns l.fn.matrix)) l.fn.matrix l.matrix l.row
