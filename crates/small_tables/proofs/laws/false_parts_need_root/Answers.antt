use Rattle.small_tables.proofs.SmallParts.{false_parts_need_root}
use Rattle.small_tables.proofs.laws.false_parts_need_root.Goals as goal

pub returns : goal.returns
returns c = false_parts_need_root c.zero_needs_root.ensures
