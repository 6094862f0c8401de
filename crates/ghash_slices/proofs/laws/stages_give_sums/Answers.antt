use Rattle.ghash_slices.proofs.StageSums.{stages_give_sums}
use Rattle.ghash_slices.proofs.laws.stages_give_sums.Goals as goal

pub returns : goal.returns
returns c = stages_give_sums
