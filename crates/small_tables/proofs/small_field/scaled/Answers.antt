use Rattle.std.proofs.Common.{sym, ◌∙◌, ap}
use Rattle.field_base.proofs.PowerLemmas.{times-one}
use Rattle.field_base.proofs.RingLemmas.{times-mod, times-zero}
use Rattle.small_tables.proofs.small_field.scaled.Goals as goal

pub returns-then-number-eq0 : goal.returns-then-number-eq0
returns-then-number-eq0 g c =
    let field = g.F.Represented in
    ap field.repr c.ZERO.ensures ∙ g.met.F.PrimeCharacteristicRing.zero_law
    ∙ sym (ap (field.product (field.repr c.args.scalar)) c.if-number-eq0.true ∙ times-zero field.width 1 field.product g.met.F.Field.field_law.ring (field.repr c.args.scalar))

pub returns-then-number-eq1 : goal.returns-then-number-eq1
returns-then-number-eq1 g c =
    let field = g.F.Represented in
    sym
    (ap (field.product (field.repr c.args.scalar)) c.if-number-eq1.true
    ∙ times-one field.width 1 field.product g.met.F.Field.field_law.ring (field.repr c.args.scalar) (field.range_law c.args.scalar))

pub returns : goal.returns
returns g c =
    let field = g.F.Represented in
    g.met.F.Represented.mul_law c.args.scalar c.of_number.result c.mul.result c.mul.ensures
    ∙ ap (field.product (field.repr c.args.scalar)) c.of_number.ensures
    ∙ times-mod field.width 1 field.product g.met.F.Field.field_law.ring (field.repr c.args.scalar) c.args.number
