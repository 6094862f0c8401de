use Rattle.std.proofs.Common.{length}
use Rattle.sum_checks.proofs.terms.+are_within.Given as goal

abbrev pub decreases-are_within : goal.decreases-are_within
decreases-are_within g l = length l.terms.now
