use Rattle.std.proofs.Common.{◌≡◌, ◌*◌, length}
use Rattle.std.specs.Prelude.{slice_index}
use Rattle.field_slices.proofs.LinearSystems.{SolvedBefore}
use Rattle.bits_packed.specs.BitMatrices.{bit_entry, words_for}
use Rattle.bits_packed.proofs.systems.write_solution.Given as goal

-- the rows before this one have given their right sides
abbrev pub invariant-loop-row : goal.invariant-loop-row
invariant-loop-row l =
    (length l.solution ≡ length l.fn.solution)
    × SolvedBefore (64 * words_for l.unknowns) (slice_index l.pivots) (λ k. bit_entry l.shape.words l.reduced k l.unknowns)
    (bit_entry (words_for l.unknowns) l.solution 0) l.row
