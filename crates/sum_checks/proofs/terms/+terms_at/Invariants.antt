use Rattle.std.proofs.Common.{length}
use Rattle.sum_checks.proofs.terms.+terms_at.Given as goal

abbrev pub decreases-terms_at : goal.decreases-terms_at
decreases-terms_at g l = length l.terms.now
