use Rattle.any_field.proofs.Rabin.{coprime_by_steps}
use Rattle.any_field.proofs.laws.coprime_by_steps.Goals as goal

pub returns : goal.returns
returns c = coprime_by_steps
