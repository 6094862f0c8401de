use Rattle.std.proofs.Common.{◌≡◌, [], ℕ, length, map, get_or}
use Rattle.protocols.specs.CommitmentScheme.{matrix_rows}
use Rattle.protocols.specs.JointTables.{EachBelow}
use Rattle.protocols.specs.Tables.{IsHonestOpening}
use Rattle.protocols.proofs.joint_tables.open_each.Given as goal

-- the columns and nodes of the tables so far
abbrev pub invariant-tables : goal.invariant-tables
invariant-tables g l = record {
  columns : length l.columns.items ≡ l.index;
  nodes : length l.nodes.items ≡ l.index;
  each : EachBelow l.index l.tables (λ i held. (size : ℕ) (vector : ℕ → ℕ)
      → IsHonestOpening g.F.Represented.repr size g.F.Represented.width g.F.Represented.product vector (matrix_rows l.parameters.queries l.parameters.variables) held.now.tree held.now.columns.items l.places
      (get_or (map (λ list. list.items) l.columns.items) i []) (get_or (map (λ list. list.items) l.nodes.items) i []));
}
