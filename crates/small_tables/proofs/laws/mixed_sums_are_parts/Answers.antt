use Rattle.small_tables.proofs.SmallParts.{mixed_sums_are_parts}
use Rattle.small_tables.proofs.laws.mixed_sums_are_parts.Goals as goal

pub returns : goal.returns
returns c = mixed_sums_are_parts
