use Rattle.std.proofs.Common.{ℕ, List}
use Rattle.shard_files.specs.Files.{AppendsToEach}
use Rattle.shard_files.specs.Groups.{numbered, shard_at}
use Rattle.shard_files.specs.Heads.{head_digest}
use Rattle.shard_files.specs.Pieces.{piece_bytes}
use Rattle.shard_files.proofs.writing.put_pieces.Given as goal

abbrev pub invariant-loop-index : goal.invariant-loop-index
invariant-loop-index g l =
    (before : ℕ → List ℕ) → g.F.ShardFiles.holds l.initial.files before
    → (now : ℕ → List ℕ) × g.F.ShardFiles.holds l.files now
    × AppendsToEach l.index (λ index. piece_bytes (head_digest (numbered l.layout.origin index)) l.stripe (shard_at l.layout.origin.size l.shards index)) before now
