use Rattle.std.proofs.Common.{◌≡◌, drop}
use Rattle.reed_solomon.specs.ShardVectors.{first_size}
use Rattle.reed_solomon.proofs.shard_vectors.parts.first_size.Given as goal

abbrev pub invariant-loop-i : goal.invariant-loop-i
invariant-loop-i g l = first_size (drop l.i l.shards) ≡ first_size l.shards
