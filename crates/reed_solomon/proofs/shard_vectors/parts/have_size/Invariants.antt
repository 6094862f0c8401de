use Rattle.std.proofs.Common.{◌≡◌, ◌<◌, ℕ, length, slice_index_or, None}
use Rattle.reed_solomon.specs.ShardVectors.{shard_content}
use Rattle.reed_solomon.proofs.shard_vectors.parts.have_size.Given as goal

abbrev pub invariant-loop-i : goal.invariant-loop-i
invariant-loop-i g l = (k : ℕ) → k < l.i → length (shard_content l.size (slice_index_or l.shards k None)) ≡ l.size
