use Rattle.std.proofs.Common.{◌≡◌}
use Rattle.field_base.specs.Interpolation.{other_factors}
use Rattle.field_slices.proofs.nodes.differences_at.Given as goal

-- the product so far is that of the differences before this one
abbrev pub invariant-loop-i : goal.invariant-loop-i
invariant-loop-i g l =
    let field = g.F.Represented in field.repr l.product ≡ other_factors field.product (λ i. i) l.own (field.repr l.x) l.i
