use Rattle.std.proofs.Common.{◌≡◌, ◌*◌, length, slice_index}
use Rattle.std.specs.Int.{to_le_bytes, w64}
use Rattle.transcripts.specs.Filling.{AreLeaves}
use Rattle.transcripts.proofs.merkle_tree.MerkleTree.new.Given as goal

-- the leaves before this one are written
abbrev pub invariant-leaves : goal.invariant-leaves
invariant-leaves g l =
    (length l.nodes.items ≡ 2 * l.leaves)
    × AreLeaves (g.H.ByteHasher32.digest l.hasher) l.leaves (λ i. to_le_bytes w64 (slice_index l.words i)) l.index l.nodes.items
