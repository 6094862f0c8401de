use Rattle.std.proofs.Common.{◌≡◌, map}
use Rattle.std.specs.Prelude.{slice_index}
use Rattle.std.specs.List.{range_with_len}
use Rattle.small_tables.specs.SmallTables.{mixed}
use Rattle.small_tables.proofs.small_field.SmallField.images.Given as goal

-- the images so far
abbrev pub invariant-corners : goal.invariant-corners
invariant-corners g l =
    let field = g.F.Represented in
    map field.repr l.images.items
    ≡ map (λ v. mixed field.product l.self.width (map field.repr l.scalars) (slice_index (map field.repr l.weights) v)) (range_with_len 0 l.corner)
