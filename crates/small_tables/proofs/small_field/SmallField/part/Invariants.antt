use Rattle.std.proofs.Common.{◌≡◌, map}
use Rattle.std.specs.Prelude.{slice_index}
use Rattle.field_base.specs.Basis.{sum_below}
use Rattle.field_base.specs.Chunks.{chunk}
use Rattle.small_tables.proofs.small_field.SmallField.part.Given as goal

-- the sum over the corners before this one
abbrev pub invariant-corners : goal.invariant-corners
invariant-corners g l =
    let field = g.F.Represented in
    field.repr l.sum
    ≡ sum_below (λ v. field.product (slice_index (map field.repr l.weights) v)
    (chunk l.self.width l.place (slice_index (map field.repr l.table) v))) l.corner
