use Rattle.sum_checks.proofs.Soundness.{few_challenges_save}
use Rattle.sum_checks.proofs.laws.few_challenges_save.Goals as goal

pub returns : goal.returns
returns c = few_challenges_save
