use Rattle.std.proofs.Common.{◌≡◌, length, map}
use Rattle.additive_transforms.specs.Columns.{InEachColumn}
use Rattle.additive_transforms.specs.Elements.{level_shifts, twiddle_basis}
use Rattle.additive_transforms.proofs.ColumnStages.{StagesSoFar}
use Rattle.additive_transforms.proofs.elements.columns.run_columns.Given as goal

-- so many stages are done in each column
abbrev pub invariant-loop-done : goal.invariant-loop-done
invariant-loop-done g l =
    let by = g.K.StageArithmetic in
    (length l.values ≡ length l.fn.values)
    × InEachColumn l.columns
    (StagesSoFar l.inverse by.product (level_shifts by.width by.product (by.number l.z)) (twiddle_basis by.width by.vector) l.stages l.done)
    (map by.value l.fn.values) (map by.value l.values)
