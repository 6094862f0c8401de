use Rattle.protocols.proofs.OpenedTables.{opened_rows_need_luck}
use Rattle.protocols.proofs.laws.opened_rows_need_luck.Goals as goal

pub returns : goal.returns
returns c = opened_rows_need_luck
