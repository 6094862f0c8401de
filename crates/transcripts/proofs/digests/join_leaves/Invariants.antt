use Rattle.std.proofs.Common.{◌≡◌, ◌*◌, ◌≤◌, ℕ, [], get_or, length}
use Rattle.transcripts.specs.Filling.{AreNodes}
use Rattle.transcripts.proofs.digests.join_leaves.Given as goal

-- the nodes from this one on are written, and the leaves are as before
abbrev pub invariant-nodes : goal.invariant-nodes
invariant-nodes g l =
    (length l.nodes ≡ 2 * l.leaves)
    × ((i : ℕ) → l.leaves ≤ i → get_or l.nodes i [] ≡ get_or l.initial.nodes i [])
    × AreNodes (g.H.ByteHasher32.digest l.hasher) l.leaves l.node l.nodes
