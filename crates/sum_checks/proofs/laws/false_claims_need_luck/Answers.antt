use Rattle.sum_checks.proofs.Soundness.{false_claims_need_luck}
use Rattle.sum_checks.proofs.laws.false_claims_need_luck.Goals as goal

pub returns : goal.returns
returns c = false_claims_need_luck
