use Rattle.ghash_slices.proofs.CantorValues.{cantor_vectors_step_down}
use Rattle.ghash_slices.proofs.laws.cantor_vectors_step_down.Goals as goal

pub returns : goal.returns
returns c = cantor_vectors_step_down
