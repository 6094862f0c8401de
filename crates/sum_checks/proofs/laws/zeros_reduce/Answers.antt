use Rattle.sum_checks.proofs.ZeroSums.{zeros_reduce}
use Rattle.sum_checks.proofs.laws.zeros_reduce.Goals as goal

pub returns : goal.returns
returns c = zeros_reduce
