use Rattle.std.proofs.Common.{◌-◌, ◌≤◌, length}
use Rattle.field_slices.proofs.FoldedBlocks.{AreFolded}
use Rattle.field_slices.specs.Multilinear.{on_line}
use Rattle.field_slices.proofs.cube.fold_blocks.Given as goal

-- the places before this block are done
abbrev pub invariant-loop-start : goal.invariant-loop-start
invariant-loop-start g l =
    let field = g.F.Represented in
    (l.start ≤ length l.fn.lower)
    × AreFolded field.repr (on_line field.product (field.repr l.fn.r)) l.fn.lower l.upper l.lower l.start

abbrev pub decreases-loop-start : goal.decreases-loop-start
decreases-loop-start g l = length l.lower - l.start
