use Rattle.sum_checks.proofs.ZeroChecks.{zero_needs_root}
use Rattle.sum_checks.proofs.laws.zero_needs_root.Goals as goal

pub returns : goal.returns
returns c = zero_needs_root
