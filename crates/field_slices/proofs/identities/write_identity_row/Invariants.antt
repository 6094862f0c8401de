use Rattle.std.proofs.Common.{ℕ}
use Rattle.field_slices.specs.Matrices.{beside_identity, entry_of}
use Rattle.field_slices.proofs.MatrixRows.{RowWritten}
use Rattle.field_slices.proofs.identities.write_identity_row.Given as goal

-- the entries before this column are done
abbrev pub invariant-loop-column : goal.invariant-loop-column
invariant-loop-column g l =
    let number = g.S.Scalars.number l.field in
    RowWritten (entry_of number l.shape.columns) l.shape.columns l.row (beside_identity l.from (λ (i : ℕ). entry_of number l.shape.columns l.fn.matrix l.row) l.place)
    l.fn.matrix l.matrix l.column
