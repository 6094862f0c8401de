use Rattle.std.proofs.Common.{refl, ◌∙◌, ap}
use Rattle.field_slices.proofs.CubeTables.{none-if_empty, some-unless_empty, table-none, table-more}
use Rattle.field_slices.proofs.cube.+eq_poly_into.Goals as goal

pub returns-then-is_empty : goal.returns-then-is_empty
returns-then-is_empty g t c =
    let field = g.F.Represented in
    let law = g.met.F.Field in
    table-none law.field_law.ring law.wide_law field.repr field.range_law c.args.table.now c.args.point.now
    c.ONE.result (none-if_empty _ _ c.is_empty.ensures c.if-is_empty.true) c.requires
    (ap field.repr c.ONE.ensures ∙ g.met.F.PrimeCharacteristicRing.one_law ∙ law.unit_law)

pub returns : goal.returns
returns g t c =
    let field = g.F.Represented in
    let law = g.met.F.Field in
    let some = some-unless_empty _ _ c.is_empty.ensures c.if-is_empty.false in
    table-more law.field_law.ring law.wide_law field.repr field.range_law c.args.point.now _
    c.eq_poly_into.new.table c.split_first.new.lower c.split_first.new.upper c.index-point-0.result some c.index-point-0.is refl
    c.eq_poly_into.ensures c.split_first.ensures.upper c.split_first.ensures.lower
