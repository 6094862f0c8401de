use Rattle.sum_checks.proofs.ZeroChecks.{lines_have_one_root}
use Rattle.sum_checks.proofs.laws.lines_have_one_root.Goals as goal

pub returns : goal.returns
returns c = lines_have_one_root
