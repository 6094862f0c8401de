use Rattle.sum_checks.proofs.ZeroChecks.{zero_check_evaluates}
use Rattle.sum_checks.proofs.laws.zero_check_evaluates.Goals as goal

pub returns : goal.returns
returns c = zero_check_evaluates
