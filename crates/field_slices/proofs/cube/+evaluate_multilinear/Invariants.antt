use Rattle.std.proofs.Common.{length}
use Rattle.field_slices.proofs.cube.+evaluate_multilinear.Given as goal

abbrev pub decreases-evaluate_multilinear : goal.decreases-evaluate_multilinear
decreases-evaluate_multilinear g l = length l.point.now
