use Rattle.std.proofs.Common.{◌≡◌, ◌+◌, ◌-◌, ◌∙◌, ap, arith}
use native.Mathlib.Nat.{mod-eq_of_lt}
use Rattle.field_base.specs.Powers.{repeated_square}
use Rattle.field_base.proofs.PowerLemmas.{repeated_square_more}
use Rattle.field_base.proofs.traits.field.Field.try_sqrt.Goals as goal

pub returns : goal.returns
returns g c =
    let ring = g.Self.Represented in
    let x = ring.repr c.args.self.now in
    let whole : c.bits.result - 1 + 1 ≡ ring.width = omega (arith, c.bits.ensures, g.met.Self.Field.wide_law) in
    let more = repeated_square_more ring.width ring.unit ring.product ring.ring_law (c.bits.result - 1) x in
    let count = ap (λ n. repeated_square ring.unit ring.product n x) whole in
    let back =
    ap (λ one. repeated_square one ring.product ring.width x) g.met.Self.Field.unit_law
    ∙ g.met.Self.Field.field_law.squarings_return x ∙ mod-eq_of_lt (ring.range_law c.args.self.now) in
    cc (more, count, back, c.exp_power_of_2.ensures)
