use Rattle.std.proofs.Common.{◌-◌}
use Rattle.std.specs.Prelude.{slice_index}
use Rattle.field_base.specs.Tower.{tower_mul}
use Rattle.field_slices.proofs.NullSpaces.{VectorsWritten}
use Rattle.bits_packed.specs.BitMatrices.{bit_entry}
use Rattle.bits_packed.proofs.BitNullRows.{BehindZero}
use Rattle.bits_packed.proofs.null_spaces.write_null_rows.Given as goal

-- the columns before this one are done, and the bits behind the columns are 0
abbrev pub invariant-loop-column : goal.invariant-loop-column
invariant-loop-column l =
    VectorsWritten (tower_mul 0) l.columns l.rank (slice_index l.pivots) (bit_entry l.shape.words l.reduced) (bit_entry l.shape.words)
    l.fn.basis l.basis l.passed (l.column - l.passed) l.column × BehindZero l.shape.words l.columns l.basis (l.column - l.passed)
