use Rattle.protocols.proofs.RootColumns.{roots_hold_columns}
use Rattle.protocols.proofs.laws.roots_hold_columns.Goals as goal

pub returns : goal.returns
returns c = roots_hold_columns c.openings_bind.ensures
