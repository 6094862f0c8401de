use Rattle.field_slices.specs.Matrices.{entry_of}
use Rattle.field_slices.proofs.RowExchanges.{RowsExchanged}
use Rattle.field_slices.proofs.decompositions.exchange_rows.Given as goal

-- the entries before this column are exchanged
abbrev pub invariant-loop-column : goal.invariant-loop-column
invariant-loop-column g l =
    let number = g.S.Scalars.number l.field in
    RowsExchanged (entry_of number l.shape.columns) l.shape.columns l.first l.second l.fn.matrix l.matrix l.column
