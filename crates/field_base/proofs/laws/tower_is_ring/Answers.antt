use Rattle.field_base.proofs.TowerRing.{tower_ring}
use Rattle.field_base.proofs.laws.tower_is_ring.Goals as goal

pub returns : goal.returns
returns c = tower_ring
