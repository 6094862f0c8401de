use Rattle.std.proofs.Common.{◌<◌, ◌∙◌, length, ap, ap₂, arith}
use Rattle.std.specs.Prelude.{bit_xor}
use Rattle.std.proofs.lemmas.List.{get_or_read}
use Rattle.field_base.specs.Tower.{tower_mul}
use Rattle.reed_solomon.proofs.RowProducts.{differences_more}
use Rattle.reed_solomon.proofs.locators.multiply_differences.Goals as goal

pub loop-i-preserved : goal.loop-i-preserved
loop-i-preserved g c =
    let number = g.R.Stored.number in
    let zero = g.R.Stored.ZERO in
    let level = g.L.Level.LEVEL in
    let i = c.loop-i.i in
    let values = c.loop-i.values in
    let points = c.args.points.now in
    let x = number c.args.x in
    let within : i < length values = omega (arith, c.loop-i.auto.values, c.loop-i-test.true) in
    let point_within : i < length points = omega (arith, c.requires, c.loop-i-test.true) in
    differences_more number zero level i c.args.values.now values c.multiply.result within x points
    (c.multiply.ensures
    ∙ ap₂ (tower_mul level)
    (c.xor.ensures ∙ ap (λ p. bit_xor (number p) x) (get_or_read points i c.index-points-i.result point_within c.index-points-i.is zero))
    (ap number (get_or_read values i c.index-values-i.result within c.index-values-i.is zero)))
    c.loop-i.invariant
