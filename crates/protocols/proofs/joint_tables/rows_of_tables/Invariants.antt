use Rattle.std.proofs.Common.{◌≡◌, ◌^◌, [], length, map, take, get_or}
use Rattle.std.specs.List.{range_with_len}
use Rattle.field_slices.specs.Multilinear.{multilinear_value}
use Rattle.transcripts.specs.Commitments.{row_at}
use Rattle.protocols.specs.CommitmentScheme.{matrix_rows, row_levels}
use Rattle.protocols.specs.JointTables.{EachBelow}
use Rattle.protocols.proofs.joint_tables.rows_of_tables.Given as goal

-- the rows of the tables so far
abbrev pub invariant-tables : goal.invariant-tables
invariant-tables g l = record {
  count : length l.rows.items ≡ l.index;
  each : EachBelow l.index l.tables (λ i held.
      map g.F.Represented.repr (get_or (map (λ row. row.items) l.rows.items) i [])
      ≡ map (λ p. multilinear_value g.F.Represented.product
      (map g.F.Represented.repr (row_at (2 ^ matrix_rows l.parameters.queries l.parameters.variables) held.now.columns.items p))
      (map g.F.Represented.repr (take (matrix_rows l.parameters.queries l.parameters.variables) l.point)))
      (range_with_len 0 (2 ^ row_levels l.parameters.queries l.parameters.variables)));
}
