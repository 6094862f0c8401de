use Rattle.std.proofs.Common.{◌≡◌, sym, ◌∙◌, ap, arith, ◌%◌}
use Rattle.field_base.proofs.PowerLemmas.{power_start, power_step, power_skip, power_end}
use Rattle.field_base.proofs.traits.ring.PrimeCharacteristicRing.exp_u64.Goals as goal
use Rattle.field_base.proofs.traits.ring.PrimeCharacteristicRing.exp_u64.Goals.{then-rest-eq1, else-rest-eq1}

pub loop-rest-init : goal.loop-rest-init
loop-rest-init g c =
    let ring = g.Self.Represented in
    let one_is = g.met.Self.PrimeCharacteristicRing.one_law in
    power_start ring.width ring.unit ring.product ring.ring_law ring.unit_fits
    (ring.repr c.ONE-value.result) (ring.repr c.args.self.now) c.args.exponent
    (ap ring.repr c.ONE-value.ensures ∙ one_is)

pub loop-rest-preserved : goal.loop-rest-preserved
loop-rest-preserved g c =
    let ring = g.Self.Represented in
    elim c.if-rest-eq1.branch [
      | then-rest-eq1 w ↦
          let step = power_step ring.width ring.unit ring.product ring.ring_law ring.unit_fits (ring.repr c.loop-rest.value)
          (ring.repr c.loop-rest.base) c.loop-rest.rest w.if-rest-eq1.true in
          let multiplied = g.met.Self.Represented.mul_law c.loop-rest.value c.loop-rest.base w.mul-value.result w.mul-value.ensures in
          cc (ap ring.repr w.value-is, multiplied, c.square-base.ensures, step, c.loop-rest.invariant)
      | else-rest-eq1 w ↦
          let even : c.loop-rest.rest % 2 ≡ 0 = omega (arith, w.if-rest-eq1.false) in
          let skip = power_skip ring.width ring.unit ring.product ring.ring_law ring.unit_fits (ring.repr c.loop-rest.base) c.loop-rest.rest even in
          cc (ap ring.repr w.value-is, c.square-base.ensures, skip, c.loop-rest.invariant)
    ]

pub returns : goal.returns
returns g c =
    let ring = g.Self.Represented in
    sym (power_end ring.width ring.unit ring.product ring.ring_law ring.unit_fits (ring.repr c.loop-rest.value)
    (ring.repr c.loop-rest.base) c.loop-rest.rest (ring.range_law c.loop-rest.value) c.loop-rest-test.false)
    ∙ c.loop-rest.invariant
