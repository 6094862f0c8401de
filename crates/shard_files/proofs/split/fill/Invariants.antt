use Rattle.std.proofs.Common.{◌≡◌, ◌<◌, ℕ, length, slice_index}
use Rattle.shard_files.proofs.split.fill.Given as goal

abbrev pub invariant-loop-i : goal.invariant-loop-i
invariant-loop-i l =
    (length l.shards ≡ length l.initial.shards) × ((j : ℕ) → j < l.i → slice_index l.shards j ≡ slice_index l.content j)
