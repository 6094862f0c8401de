use Rattle.field_slices.specs.Matrices.{AreRowsReduced, entry_of}
use Rattle.field_slices.proofs.reduction.row_reduce_augmented.Given as goal

-- the columns before this one are in reduced row echelon form, the rows span what they did, and the places that are not taken stay
abbrev pub invariant-loop-column : goal.invariant-loop-column
invariant-loop-column g l =
    AreRowsReduced (entry_of (g.S.Scalars.number l.field) l.columns) (g.S.Scalars.product l.field) l.rows l.columns l.column l.rank
    l.fn.matrix l.matrix l.fn.pivots l.pivots
