use Rattle.std.proofs.Common.{◌≡◌, [], map, drop, get_or}
use Rattle.std.specs.List.{range_with_len}
use Rattle.field_slices.specs.Multilinear.{multilinear_value}
use Rattle.protocols.specs.CommitmentScheme.{matrix_rows}
use Rattle.protocols.proofs.joint_tables.values_of_rows.Given as goal

-- the values of the rows so far
abbrev pub invariant-rows : goal.invariant-rows
invariant-rows g l =
    map g.F.Represented.repr l.values.items
    ≡ map (λ i. multilinear_value g.F.Represented.product (map g.F.Represented.repr (get_or (map (λ row. row.items) l.rows) i []))
    (map g.F.Represented.repr (drop (matrix_rows l.parameters.queries l.parameters.variables) l.point))) (range_with_len 0 l.index)
