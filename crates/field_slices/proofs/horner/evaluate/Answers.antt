use Rattle.std.proofs.Common.{ℕ, sym, ◌∙◌, ap}
use Rattle.field_base.specs.Powers.{value_of}
use Rattle.field_slices.proofs.horner.evaluate.Goals as goal

pub returns : goal.returns
returns g c =
    let field = g.F.Represented in
    c.value_at.ensures
    ∙ ap (λ (unit : ℕ). value_of unit field.product field.repr c.args.coefficients.now (field.repr c.args.x)) (sym g.met.F.Field.unit_law)
