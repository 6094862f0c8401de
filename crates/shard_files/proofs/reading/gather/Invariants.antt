use Rattle.std.proofs.Common.{◌≡◌, ◌+◌, length}
use Rattle.shard_files.specs.Groups.{Holdings, IsGathered}
use Rattle.shard_files.proofs.reading.gather.Given as goal

abbrev pub invariant-loop-place : goal.invariant-loop-place
invariant-loop-place g l =
    (l.group.layout.origin ≡ l.fn.layout.origin) × (length l.piece.items ≡ 32 + l.fn.layout.origin.size)
    × ((files : Holdings) → g.S.ShardSource.holds l.fn.source files
    → (g.S.ShardSource.holds l.source files) × IsGathered l.fn.layout.origin files l.stripe l.place l.group.shards.items l.group.present.items)
