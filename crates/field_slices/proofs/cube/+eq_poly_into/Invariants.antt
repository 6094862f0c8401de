use Rattle.std.proofs.Common.{length}
use Rattle.field_slices.proofs.cube.+eq_poly_into.Given as goal

abbrev pub decreases-eq_poly_into : goal.decreases-eq_poly_into
decreases-eq_poly_into g l = length l.point.now
