use Rattle.small_tables.proofs.SmallParts.{small_values_are_weighted}
use Rattle.small_tables.proofs.laws.small_values_are_weighted.Goals as goal

pub returns : goal.returns
returns c = small_values_are_weighted c.column_values_evaluate.ensures
