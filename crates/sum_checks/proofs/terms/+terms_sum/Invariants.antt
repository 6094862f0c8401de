use Rattle.std.proofs.Common.{length}
use Rattle.sum_checks.proofs.terms.+terms_sum.Given as goal

abbrev pub decreases-terms_sum : goal.decreases-terms_sum
decreases-terms_sum g l = length l.terms.now
