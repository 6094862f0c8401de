use Rattle.std.proofs.Common.{◌*◌}
use Rattle.std.specs.Prelude.{slice_index}
use Rattle.bits_packed.specs.BitMatrices.{ArePivotsSet}
use Rattle.bits_packed.proofs.pending.set_pivots.Given as goal

-- the bits before this one are done
abbrev pub invariant-loop-bit : goal.invariant-loop-bit
invariant-loop-bit l = ArePivotsSet l.shape.rows l.shape.words (64 * l.word) l.bit (slice_index l.places) l.fn.matrix l.matrix
