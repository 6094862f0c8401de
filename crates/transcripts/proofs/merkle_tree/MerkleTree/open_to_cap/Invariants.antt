use Rattle.std.proofs.Common.{◌≡◌, ◌++◌, ◌+◌, ◌-◌, ◌*◌, ◌/◌, ◌^◌, ◌<◌, ◌≤◌, ℕ, List, length}
use Rattle.transcripts.specs.Commitments.{digest_at, IsTreeOver}
use Rattle.transcripts.specs.MerkleTrees.{ending, row_input}
use Rattle.transcripts.proofs.merkle_tree.MerkleTree.open_to_cap.Given as goal

-- the node is on the way, with as many levels above it as are left, and the siblings so far lead to it; it stands above the leaf
abbrev pub invariant-levels : goal.invariant-levels
invariant-levels g l =
    (length l.path.items ≡ l.level)
    × (2 ^ (l.self.depth - l.level) ≤ l.node)
    × (l.node < 2 * 2 ^ (l.self.depth - l.level))
    × (l.node ≡ 2 ^ (l.self.depth - l.level) + l.index / 2 ^ l.level)
    × ((hash : List ℕ → List ℕ) (row : ℕ → List ℕ) → IsTreeOver hash row l.self → (rest : List (List ℕ))
    → ending hash l.index (hash (row_input (row l.index))) (l.path.items ++ rest)
    ≡ ending hash (l.node - 2 ^ (l.self.depth - l.level)) (digest_at l.self l.node) rest)
