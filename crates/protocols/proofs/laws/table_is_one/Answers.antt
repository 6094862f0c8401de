use Rattle.protocols.proofs.OpenedTables.{table_is_one}
use Rattle.protocols.proofs.laws.table_is_one.Goals as goal

pub returns : goal.returns
returns c = table_is_one
