use Rattle.std.proofs.Common.{sym}
use Rattle.field_base.proofs.PowerLemmas.{repeated_square-none, repeated_square_more}
use Rattle.field_base.proofs.traits.ring.PrimeCharacteristicRing.exp_power_of_2.Goals as goal

pub loop-init : goal.loop-init
loop-init g c =
    let ring = g.Self.Represented in
    let value = ring.repr c.args.self.now in
    sym (repeated_square-none ring.width ring.unit ring.product ring.ring_law value (ring.range_law c.args.self.now))

pub loop-preserved : goal.loop-preserved
loop-preserved g c =
    let ring = g.Self.Represented in
    let more = repeated_square_more ring.width ring.unit ring.product ring.ring_law c.loop.counter (ring.repr c.args.self.now) in
    cc (more, c.square-value.ensures, c.loop.invariant)
