use Rattle.std.proofs.Common.{◌≡◌, ℕ, map, slice_index}
use Rattle.std.specs.List.{range_with_len}
use Rattle.transcripts.specs.Commitments.{row_at}
use Rattle.transcripts.specs.MerkleTrees.{row_input}
use Rattle.transcripts.proofs.openings.verify_many.Given as goal

-- the leaves at the places so far, with the digests of their rows
abbrev pub invariant-leaves : goal.invariant-leaves
invariant-leaves g l =
    l.leaves.items
    ≡ map (λ (k : ℕ). (slice_index l.places k, g.H.ByteHasher32.digest l.hasher (row_input (row_at l.size l.rows k)))) (range_with_len 0 l.index)
