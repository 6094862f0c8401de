use Rattle.std.proofs.Common.{◌*◌}
use Rattle.field_slices.specs.Matrices.{beside_identity}
use Rattle.bits_packed.specs.BitMatrices.{bit_entry}
use Rattle.field_slices.proofs.MatrixRows.{RowsWritten}
use Rattle.bits_packed.proofs.identities.write_identity.Given as goal

-- the rows before this one are done
abbrev pub invariant-loop-row : goal.invariant-loop-row
invariant-loop-row l =
    RowsWritten (bit_entry l.shape.words) (64 * l.shape.words) (beside_identity (64 * l.from) (bit_entry l.shape.words l.fn.matrix)) l.fn.matrix l.matrix l.row
