use Rattle.std.proofs.Common.{◌≡◌, ◌*◌, ◌^◌, map}
use Rattle.std.specs.Prelude.{slice_index}
use Rattle.field_base.specs.Basis.{sum_below}
use Rattle.small_tables.specs.SmallTables.{mixed}
use Rattle.small_tables.proofs.small_field.SmallField.mixed_sum.Given as goal

-- the sum over the places before this one
abbrev pub invariant-places : goal.invariant-places
invariant-places g l =
    let field = g.F.Represented in
    field.repr l.sum
    ≡ sum_below (λ u. field.product (2 ^ (l.self.width * u))
    (mixed field.product l.self.width (map field.repr l.scalars) (slice_index (map field.repr l.parts) u))) l.place
