use Rattle.std.proofs.Common.{◌≡◌, ◌+◌, ◌^◌, ℕ, map, slice_index}
use Rattle.std.specs.List.{range_with_len}
use Rattle.transcripts.specs.Commitments.{digest_at}
use Rattle.transcripts.proofs.merkle_tree.MerkleTree.open_many.Given as goal

-- the leaves at the places so far, with their digests
abbrev pub invariant-leaves : goal.invariant-leaves
invariant-leaves g l =
    l.leaves.items ≡ map (λ (k : ℕ). (slice_index l.places k, digest_at l.self (2 ^ l.self.depth + slice_index l.places k))) (range_with_len 0 l.index)
