use Rattle.std.proofs.Common.{ℕ, ◌∙◌, subst, arith}
use Rattle.field_base.specs.Ring.{IsRing}
use Rattle.additive_transforms.proofs.CantorSums.{value-of-levels}
use Rattle.additive_transforms.proofs.over.evaluate_cantor.Goals as goal

pub returns : goal.returns
returns g c n fits =
    let field = g.F.Represented in
    let ring = subst (λ (u : ℕ). IsRing field.width u field.product) g.met.F.Field.unit_law field.ring_law in
    c.value_by_halves.ensures
    ∙ value-of-levels field.width field.product g.met.F.Field.wide_law ring field.repr (field.repr c.args.x) 64 n
    c.args.coefficients.now (search arith) fits
