use Rattle.std.proofs.Common.{length}
use Rattle.sum_checks.proofs.terms.+degree.Given as goal

abbrev pub decreases-degree : goal.decreases-degree
decreases-degree g l = length l.terms.now
