use Rattle.prove_sums.proofs.SoundnessErrors.{few_cheats_succeed}
use Rattle.prove_sums.proofs.laws.few_cheats_succeed.Goals as goal

pub returns : goal.returns
returns c = few_cheats_succeed c.lines_have_one_root.ensures
