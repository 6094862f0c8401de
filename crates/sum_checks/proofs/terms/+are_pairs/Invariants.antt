use Rattle.std.proofs.Common.{length}
use Rattle.sum_checks.proofs.terms.+are_pairs.Given as goal

abbrev pub decreases-are_pairs : goal.decreases-are_pairs
decreases-are_pairs g l = length l.terms.now
