use Rattle.std.proofs.Common.{◌≡◌, length, map}
use Rattle.std.specs.Prelude.{slice_index}
use Rattle.field_base.specs.Basis.{sum_below}
use Rattle.field_base.specs.Interpolation.{lagrange}
use Rattle.field_slices.proofs.nodes.interpolate_at_nodes.Given as goal

-- the sum so far is that of the terms before this one
abbrev pub invariant-loop-own : goal.invariant-loop-own
invariant-loop-own g l =
    let field = g.F.Represented in
    field.repr l.sum
    ≡ sum_below (λ j. field.product (lagrange field.width field.product (λ i. i) (length l.values) j (field.repr l.x))
    (slice_index (map field.repr l.values) j)) l.own
