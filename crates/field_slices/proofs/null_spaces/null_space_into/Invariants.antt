use Rattle.std.proofs.Common.{◌-◌}
use Rattle.std.specs.Prelude.{slice_index}
use Rattle.field_slices.specs.Matrices.{entry_of}
use Rattle.field_slices.proofs.NullSpaces.{VectorsWritten}
use Rattle.field_slices.proofs.null_spaces.null_space_into.Given as goal

-- the columns before this one are done
abbrev pub invariant-loop-column : goal.invariant-loop-column
invariant-loop-column g l =
    let number = g.S.Scalars.number l.field in
    let times = g.S.Scalars.product l.field in
    VectorsWritten times l.columns l.rank (slice_index l.pivots) (entry_of number l.columns l.reduced)
    (entry_of number l.columns) l.fn.basis l.basis l.passed (l.column - l.passed) l.column
