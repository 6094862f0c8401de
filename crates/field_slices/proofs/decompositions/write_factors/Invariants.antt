use Rattle.field_slices.specs.Matrices.{entry_of}
use Rattle.field_slices.proofs.TriangularSteps.{FactorsWritten}
use Rattle.field_slices.proofs.decompositions.write_factors.Given as goal

-- the rows before this one are done
abbrev pub invariant-loop-row : goal.invariant-loop-row
invariant-loop-row g l =
    let number = g.S.Scalars.number l.field in
    let times = g.S.Scalars.product l.field in
    FactorsWritten (entry_of number l.shape.rows) times l.shape.rows l.column (entry_of number l.shape.columns l.matrix) l.fn.lower l.lower
    l.row
