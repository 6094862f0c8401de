use Rattle.std.proofs.Common.{◌^◌, ◌<◌, [], ℕ, map, get_or}
use Rattle.protocols.specs.CommitmentScheme.{matrix_rows, word_levels}
use Rattle.protocols.specs.JointTables.{OpensBytes}
use Rattle.protocols.proofs.joint_tables.opens_each.Given as goal

-- nodes open the columns of the tables so far
abbrev pub invariant-tables : goal.invariant-tables
invariant-tables g l =
    (i : ℕ) → i < l.index → OpensBytes (g.H.ByteHasher32.digest l.hasher) g.F.Represented.repr g.F.RawDataSerializable.NUM_BYTES
    (word_levels l.parameters.queries l.parameters.variables) (2 ^ matrix_rows l.parameters.queries l.parameters.variables) l.places
    (get_or l.roots i []) (get_or (map (λ list. list.items) l.lists) i [])
    (get_or (map (λ list. list.items) l.openers) i [])
