use Rattle.std.proofs.Common.{◌≡◌, ◌*◌, ◌^◌, map}
use Rattle.std.specs.Prelude.{bit_xor, slice_index}
use Rattle.std.specs.List.{range_with_len}
use Rattle.small_tables.specs.SmallTables.{mixed}
use Rattle.small_tables.proofs.small_field.SmallField.next_scalars.Given as goal

-- the next scalars so far
abbrev pub invariant-places : goal.invariant-places
invariant-places g l =
    let field = g.F.Represented in
    map field.repr l.nexts.items
    ≡ map (λ m. bit_xor (mixed field.product l.self.width (map field.repr l.scalars) (field.product (field.repr l.x) (2 ^ (l.self.width * m))))
    (field.product (bit_xor 1 (field.repr l.fn.r)) (slice_index (map field.repr l.scalars) m))) (range_with_len 0 l.place)
