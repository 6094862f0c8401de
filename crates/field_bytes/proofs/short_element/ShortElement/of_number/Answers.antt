use Rattle.std.proofs.Common.{refl}
use Rattle.field_bytes.proofs.LowBytes.{held}
use Rattle.field_bytes.proofs.short_element.ShortElement.of_number.Goals as goal

pub returns : goal.returns
returns g c = held _ _ g.met.Self.TowerLevel.room_law c.from_repr.ensures c.of_u128.ensures refl
