use Rattle.field_slices.proofs.CubeLaws.{folding-evaluates}
use Rattle.field_slices.proofs.laws.folding_evaluates.Goals as goal

pub returns : goal.returns
returns c width times point values ring are = folding-evaluates width times ring point values are
