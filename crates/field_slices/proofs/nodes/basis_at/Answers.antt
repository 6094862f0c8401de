use Rattle.std.proofs.Common.{ℕ, sym, ◌∙◌, ap}
use Rattle.field_base.specs.Interpolation.{other_factors}
use Rattle.field_slices.proofs.LagrangeSteps.{basis-quotient, differences-nonzero}
use Rattle.field_slices.proofs.nodes.basis_at.Goals as goal

pub inverse-requires : goal.inverse-requires
inverse-requires g c e =
    let field = g.F.Represented in
    let law = g.met.F.Field in
    differences-nonzero law.field_law law.wide_law c.args.count c.requires.count c.args.own c.requires.own
    (sym (c.differences_at-below.ensures
    ∙ ap (λ (x : ℕ). other_factors field.product (λ i. i) c.args.own x c.args.count) c.interpolation_node.ensures) ∙ e)

pub returns : goal.returns
returns g c =
    let field = g.F.Represented in
    let law = g.met.F.Field in
    let below =
    c.differences_at-below.ensures
    ∙ ap (λ (x : ℕ). other_factors field.product (λ i. i) c.args.own x c.args.count) c.interpolation_node.ensures in
    basis-quotient law.field_law law.wide_law c.args.count c.requires.count c.args.own (field.repr c.args.x)
    (field.repr c.differences_at-above.result) (field.repr c.inverse.result) (field.repr c.mul.result) c.requires.own
    (field.range_law c.inverse.result) c.differences_at-above.ensures
    (ap (λ (x : ℕ). field.product x (field.repr c.inverse.result)) (sym below) ∙ c.inverse.ensures)
    (g.met.F.Represented.mul_law c.differences_at-above.result c.inverse.result c.mul.result c.mul.ensures)
