use Rattle.sum_checks.proofs.ZeroSums.{false_zeros_need_luck}
use Rattle.sum_checks.proofs.laws.false_zeros_need_luck.Goals as goal

pub returns : goal.returns
returns c = false_zeros_need_luck
