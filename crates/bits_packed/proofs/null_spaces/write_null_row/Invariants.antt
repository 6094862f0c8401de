use Rattle.std.specs.Prelude.{slice_index}
use Rattle.field_slices.specs.Matrices.{null_entry}
use Rattle.bits_packed.specs.BitMatrices.{IsBitRowWritten, bit_entry}
use Rattle.bits_packed.proofs.null_spaces.write_null_row.Given as goal

-- the entries at the columns of the leading entries before this one are done
abbrev pub invariant-loop-k : goal.invariant-loop-k
invariant-loop-k l =
    IsBitRowWritten l.shape.words l.row (null_entry (slice_index l.pivots) (bit_entry l.shape.words l.reduced) l.fn.column l.k)
    l.fn.basis l.basis
