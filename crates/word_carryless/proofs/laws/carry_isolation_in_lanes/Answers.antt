use Rattle.word_carryless.proofs.MaskedLanes.{isolated_in_lanes}
use Rattle.word_carryless.proofs.laws.carry_isolation_in_lanes.Goals as goal

pub returns : goal.returns
returns c = isolated_in_lanes
