use Rattle.std.proofs.Common.{◌∙◌, ap}
use Rattle.std.specs.Prelude.{bit_xor}
use Rattle.field_slices.proofs.LagrangeSteps.{differences-none, differences-skip, differences-more}
use Rattle.field_slices.proofs.nodes.differences_at.Goals as goal
use Rattle.field_slices.proofs.nodes.differences_at.Goals.{then-i-own, else-i-own}

pub loop-i-init : goal.loop-i-init
loop-i-init g c =
    let field = g.F.Represented in
    let law = g.met.F.Field in
    ap field.repr c.ONE-product.ensures ∙ g.met.F.PrimeCharacteristicRing.one_law ∙ law.unit_law
    ∙ differences-none law.field_law law.wide_law c.args.own (field.repr c.args.x)

pub loop-i-preserved : goal.loop-i-preserved
loop-i-preserved g c =
    let field = g.F.Represented in
    let law = g.met.F.Field in
    let ring = g.met.F.Represented in
    elim c.if-i-own.branch [
      | then-i-own w ↦
          ap field.repr w.product-is
          ∙ differences-more law.field_law law.wide_law c.args.own (field.repr c.args.x) c.loop-i.i
          (field.repr c.loop-i.product) (field.repr w.mul-product.result) w.if-i-own.true c.loop-i.invariant
          (ring.mul_law c.loop-i.product w.add.result w.mul-product.result w.mul-product.ensures
          ∙ ap (field.product (field.repr c.loop-i.product))
          (ring.add_law c.args.x w.interpolation_node.result w.add.result w.add.ensures
          ∙ ap (bit_xor (field.repr c.args.x)) w.interpolation_node.ensures))
      | else-i-own w ↦
          ap field.repr w.product-is
          ∙ differences-skip law.field_law law.wide_law c.args.own (field.repr c.args.x) c.loop-i.i
          (field.repr c.loop-i.product) w.if-i-own.false c.loop-i.invariant
    ]
