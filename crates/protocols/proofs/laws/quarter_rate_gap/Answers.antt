use Rattle.protocols.proofs.CodeDistances.{quarter_rate_gap}
use Rattle.protocols.proofs.laws.quarter_rate_gap.Goals as goal

pub returns : goal.returns
returns c = quarter_rate_gap
