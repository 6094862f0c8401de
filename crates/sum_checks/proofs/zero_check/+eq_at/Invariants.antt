use Rattle.std.proofs.Common.{length}
use Rattle.sum_checks.proofs.zero_check.+eq_at.Given as goal

abbrev pub decreases-eq_at : goal.decreases-eq_at
decreases-eq_at g l = length l.point.now
