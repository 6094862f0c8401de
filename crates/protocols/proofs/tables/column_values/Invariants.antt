use Rattle.std.proofs.Common.{◌≡◌, ◌^◌, length, map}
use Rattle.std.specs.List.{range_with_len}
use Rattle.field_slices.specs.Multilinear.{multilinear_value}
use Rattle.transcripts.specs.Commitments.{row_at}
use Rattle.protocols.proofs.tables.column_values.Given as goal

-- the values of the columns so far
abbrev pub invariant-columns : goal.invariant-columns
invariant-columns g l =
    map g.F.Represented.repr l.values.items
    ≡ map (λ p. multilinear_value g.F.Represented.product (map g.F.Represented.repr (row_at (2 ^ length l.point) l.columns p))
    (map g.F.Represented.repr l.point)) (range_with_len 0 l.place)
