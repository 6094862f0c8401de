use Rattle.std.proofs.Common.{◌≡◌, ◌*◌, ◌/◌, ◌^◌}
use Rattle.std.specs.Int.{bit_at}
use Rattle.std.specs.Prelude.{bit_xor}
use Rattle.field_base.specs.Basis.{sum_below}
use Rattle.additive_transforms.proofs.elements.points.element_point.Given as goal

-- the bits from this one on are left, and the vectors of those before it were added
abbrev pub invariant-loop-bit : goal.invariant-loop-bit
invariant-loop-bit g l =
    let field = g.F.Represented in
    let level = g.F.TowerLevel in
    (l.rest ≡ l.fn.p / 2 ^ l.bit)
    × (field.repr l.sum ≡ bit_xor (field.repr l.fn.z) (sum_below (λ b. bit_at l.fn.p b * level.basis (level.cantor b)) l.bit))
