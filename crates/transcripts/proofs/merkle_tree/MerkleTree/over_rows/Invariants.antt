use Rattle.std.proofs.Common.{◌≡◌, ◌*◌, length}
use Rattle.transcripts.specs.Commitments.{row_at}
use Rattle.transcripts.specs.Filling.{AreLeaves}
use Rattle.transcripts.proofs.merkle_tree.MerkleTree.over_rows.Given as goal

-- the leaves before this one are written
abbrev pub invariant-leaves : goal.invariant-leaves
invariant-leaves g l =
    (length l.nodes.items ≡ 2 * l.leaves)
    × AreLeaves (g.H.ByteHasher32.digest l.hasher) l.leaves (row_at l.size l.rows) l.index l.nodes.items
