use Rattle.protocols.proofs.SoundnessErrors.{few_runs_save}
use Rattle.protocols.proofs.laws.few_runs_save.Goals as goal

pub returns : goal.returns
returns c = few_runs_save
