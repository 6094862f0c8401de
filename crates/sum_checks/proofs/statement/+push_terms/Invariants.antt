use Rattle.std.proofs.Common.{length}
use Rattle.sum_checks.proofs.statement.+push_terms.Given as goal

abbrev pub decreases-push_terms : goal.decreases-push_terms
decreases-push_terms g l = length l.terms.now
