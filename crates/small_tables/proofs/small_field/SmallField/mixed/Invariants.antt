use Rattle.std.proofs.Common.{◌≡◌, map}
use Rattle.std.specs.Prelude.{slice_index}
use Rattle.field_base.specs.Basis.{sum_below}
use Rattle.field_base.specs.Chunks.{chunk}
use Rattle.small_tables.proofs.small_field.SmallField.mixed.Given as goal

-- the sum over the places before this one
abbrev pub invariant-places : goal.invariant-places
invariant-places g l =
    let field = g.F.Represented in
    field.repr l.sum
    ≡ sum_below (λ m. field.product (slice_index (map field.repr l.scalars) m) (chunk l.self.width m (field.repr l.x))) l.place
