use Rattle.std.proofs.Common.{◌≡◌, length, map}
use Rattle.std.specs.Prelude.{slice_index}
use Rattle.field_slices.specs.Matrices.{entry_of}
use Rattle.field_slices.proofs.LinearSystems.{SolvedBefore}
use Rattle.field_slices.proofs.systems.write_solution.Given as goal

-- the rows before this one have given their right sides
abbrev pub invariant-loop-row : goal.invariant-loop-row
invariant-loop-row g l =
    let number = g.S.Scalars.number l.field in
    (length l.solution ≡ length l.fn.solution)
    × SolvedBefore (length l.fn.solution) (slice_index l.pivots) (λ k. entry_of number l.shape.columns l.reduced k (length l.fn.solution))
    (slice_index (map number l.solution)) l.row
