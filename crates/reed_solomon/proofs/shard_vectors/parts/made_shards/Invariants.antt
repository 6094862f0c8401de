use Rattle.std.proofs.Common.{◌≡◌, ◌<◌, ℕ, false, length, slice_index_or, None}
use Rattle.reed_solomon.specs.ShardVectors.{IsMade}
use Rattle.reed_solomon.proofs.shard_vectors.parts.made_shards.Given as goal

abbrev pub invariant-loop-i : goal.invariant-loop-i
invariant-loop-i g l =
    (length l.made.items ≡ l.i)
    × ((k : ℕ) → k < l.i → IsMade l.size k l.bytes (slice_index_or l.present k false) (slice_index_or l.made.items k None))
