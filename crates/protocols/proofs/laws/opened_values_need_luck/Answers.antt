use Rattle.protocols.proofs.OpenedTables.{opened_values_need_luck}
use Rattle.protocols.proofs.laws.opened_values_need_luck.Goals as goal

pub returns : goal.returns
returns c = opened_values_need_luck
