use Rattle.std.specs.Prelude.{slice_index}
use Rattle.field_slices.specs.Matrices.{IsRowWritten, entry_of, null_entry}
use Rattle.field_slices.proofs.null_spaces.write_null_row.Given as goal

-- the entries at the columns of the leading entries before this one are done
abbrev pub invariant-loop-k : goal.invariant-loop-k
invariant-loop-k g l =
    let number = g.S.Scalars.number l.field in
    let columns = l.shape.columns in
    IsRowWritten (entry_of number columns) columns l.row (null_entry (slice_index l.pivots)
    (entry_of number columns l.reduced) l.fn.column l.k) l.fn.basis l.basis
