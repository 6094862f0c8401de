use Rattle.std.proofs.Common.{length}
use Rattle.sum_checks.proofs.statement.+push_numbers.Given as goal

abbrev pub decreases-push_numbers : goal.decreases-push_numbers
decreases-push_numbers g l = length l.numbers.now
