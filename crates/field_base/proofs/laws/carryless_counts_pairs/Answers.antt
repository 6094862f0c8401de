use Rattle.field_base.proofs.CarrylessPairs.{carryless_counts}
use Rattle.field_base.proofs.laws.carryless_counts_pairs.Goals as goal

pub returns : goal.returns
returns c = carryless_counts
