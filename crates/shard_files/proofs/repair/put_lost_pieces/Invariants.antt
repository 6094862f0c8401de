use Rattle.std.proofs.Common.{ℕ, List}
use Rattle.shard_files.specs.Files.{AppendsToLost}
use Rattle.shard_files.specs.Groups.{numbered, shard_at}
use Rattle.shard_files.specs.Heads.{head_digest}
use Rattle.shard_files.specs.Pieces.{piece_bytes}
use Rattle.shard_files.proofs.repair.put_lost_pieces.Given as goal

abbrev pub invariant-loop-index : goal.invariant-loop-index
invariant-loop-index g l =
    (before : ℕ → List ℕ) → g.F.ShardFiles.holds l.initial.files before
    → (now : ℕ → List ℕ) × g.F.ShardFiles.holds l.files now
    × AppendsToLost l.index l.lost
    (λ index. piece_bytes (head_digest (numbered l.group.layout.origin index)) l.stripe (shard_at l.group.layout.origin.size l.group.shards.items index)) before now
