use Rattle.std.proofs.Common.{◌≡◌, take}
use Rattle.reed_solomon.specs.ShardVectors.{joined_shards}
use Rattle.reed_solomon.proofs.shard_vectors.parts.join.Given as goal

abbrev pub invariant-loop-i : goal.invariant-loop-i
invariant-loop-i g l = l.joined.items ≡ joined_shards l.size (take l.i l.shards)
