use Rattle.std.proofs.Common.{◌≡◌, ◌<◌, ◌≤◌, ℕ, length, slice_index_or, None}
use Rattle.std.specs.Option.{option_or}
use Rattle.reed_solomon.proofs.shard_vectors.parts.put.Given as goal

abbrev pub invariant-loop-i : goal.invariant-loop-i
invariant-loop-i g l =
    (length l.shards ≡ length l.initial.shards) × (length l.made.items ≡ length l.initial.made.items)
    × ((k : ℕ) → k < l.i → slice_index_or l.shards k None
    ≡ option_or (slice_index_or l.initial.made.items k None) (slice_index_or l.initial.shards k None))
    × ((k : ℕ) → l.i ≤ k → slice_index_or l.shards k None ≡ slice_index_or l.initial.shards k None)
    × ((k : ℕ) → l.i ≤ k → slice_index_or l.made.items k None ≡ slice_index_or l.initial.made.items k None)
