use Rattle.protocols.proofs.JointTables.{opened_tables_need_luck}
use Rattle.protocols.proofs.laws.opened_tables_need_luck.Goals as goal

pub returns : goal.returns
returns c = opened_tables_need_luck c.opened_values_need_luck.ensures c.zero_needs_root.ensures
