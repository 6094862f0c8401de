use Rattle.std.proofs.Common.{◌≡◌, length, map}
use Rattle.std.specs.Prelude.{slice_index}
use Rattle.std.specs.List.{range_with_len}
use Rattle.field_base.specs.Basis.{sum_below}
use Rattle.field_base.specs.Chunks.{chunk}
use Rattle.small_tables.proofs.small_field.SmallField.parts.Given as goal

-- the parts so far
abbrev pub invariant-places : goal.invariant-places
invariant-places g l =
    let field = g.F.Represented in
    map field.repr l.parts.items
    ≡ map (λ u. sum_below (λ v. field.product (slice_index (map field.repr l.weights) v)
    (chunk l.self.width u (slice_index (map field.repr l.table) v))) (length l.table)) (range_with_len 0 l.place)
