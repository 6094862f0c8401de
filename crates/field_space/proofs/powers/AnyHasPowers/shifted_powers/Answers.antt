use Rattle.std.proofs.Common.{ap}
use Rattle.field_space.proofs.PowerItems.{shifted_powers_of}
use Rattle.field_space.proofs.powers.AnyHasPowers.shifted_powers.Goals as goal

pub returns : goal.returns
returns g c =
    let ring = g.R.Represented in
    shifted_powers_of ring.repr ring.unit ring.product ring.width ring.ring_law (ring.repr c.args.first) (ring.range_law c.args.first)
    c.of.result (ring.repr c.args.self.now) (ap ring.repr c.of.ensures.base) (ap ring.repr c.of.ensures.current)
