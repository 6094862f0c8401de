use Rattle.std.proofs.Common.{ℕ, List, length, map, ap, ◌∙◌}
use Rattle.std.specs.Prelude.{slice_index}
use Rattle.field_base.specs.Basis.{product_below}
use Rattle.sum_checks.proofs.terms.Term.value_at.Goals as goal

pub returns : goal.returns
returns g c =
    let field = g.F.Represented in
    c.scaled.ensures
    ∙ ap (field.product (field.repr c.args.self.now.coefficient))
    (c.product_of.ensures
    ∙ ap (λ (ns : List ℕ). product_below field.product (λ k. slice_index (map field.repr c.args.row.now) (slice_index ns k)) (length ns)) c.factors.ensures.are)
