use Rattle.std.proofs.Common.{refl, ◌∙◌, ap, ap₂}
use Rattle.std.specs.Prelude.{bit_xor}
use Rattle.field_slices.specs.Multilinear.{on_line}
use Rattle.field_slices.proofs.CubeTables.{none-if_empty, some-unless_empty, value-none, value-more}
use Rattle.field_slices.proofs.cube.+evaluate_multilinear.Goals as goal

pub returns-then-is_empty : goal.returns-then-is_empty
returns-then-is_empty g t c =
    let field = g.F.Represented in
    let law = g.met.F.Field in
    value-none law.field_law.ring law.wide_law field.repr field.range_law c.args.values.now c.args.point.now
    c.index-values-0.result (none-if_empty _ _ c.is_empty.ensures c.if-is_empty.true) c.requires c.index-values-0.is

pub returns : goal.returns
returns g t c =
    let field = g.F.Represented in
    let law = g.met.F.Field in
    let ring = g.met.F.Represented in
    let low = c.evaluate_multilinear-low.result in
    let high = c.evaluate_multilinear-high.result in
    let some = some-unless_empty _ _ c.is_empty.ensures c.if-is_empty.false in
    ring.add_law low c.mul.result c.add-2.result c.add-2.ensures
    ∙ ap (bit_xor (field.repr low))
    (ring.mul_law c.index-point-0.result c.add.result c.mul.result c.mul.ensures
    ∙ ap (field.product (field.repr c.index-point-0.result)) (ring.add_law low high c.add.result c.add.ensures))
    ∙ ap₂ (on_line field.product (field.repr c.index-point-0.result)) c.evaluate_multilinear-low.ensures c.evaluate_multilinear-high.ensures
    ∙ value-more law.field_law.ring law.wide_law field.repr field.range_law c.args.values.now _ _ c.args.point.now _
    c.index-point-0.result c.requires some c.index-point-0.is refl c.split_at.ensures.front c.split_at.ensures.back
