use Rattle.std.proofs.Common.{◌≡◌, map}
use Rattle.std.specs.Prelude.{slice_index}
use Rattle.field_base.specs.Basis.{product_below}
use Rattle.sum_checks.proofs.terms.product_of.Given as goal

-- the product so far is that of the factors before this one
abbrev pub invariant-loop-place : goal.invariant-loop-place
invariant-loop-place g l =
    let field = g.F.Represented in
    field.repr l.product ≡ product_below field.product (λ k. slice_index (map field.repr l.row) (slice_index l.factors k)) l.place
