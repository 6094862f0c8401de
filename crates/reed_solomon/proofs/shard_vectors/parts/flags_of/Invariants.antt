use Rattle.std.proofs.Common.{◌≡◌, length, take}
use Rattle.reed_solomon.specs.ShardVectors.{shard_flags}
use Rattle.reed_solomon.proofs.shard_vectors.parts.flags_of.Given as goal

abbrev pub invariant-loop-i : goal.invariant-loop-i
invariant-loop-i g l = (length l.flags ≡ 256) × (take l.i l.flags ≡ shard_flags (take l.i l.shards))
