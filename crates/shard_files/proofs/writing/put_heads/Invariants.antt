use Rattle.std.proofs.Common.{ℕ, List}
use Rattle.shard_files.specs.Files.{AppendsToEach}
use Rattle.shard_files.specs.Groups.{numbered}
use Rattle.shard_files.specs.Heads.{head_file}
use Rattle.shard_files.proofs.writing.put_heads.Given as goal

abbrev pub invariant-loop-index : goal.invariant-loop-index
invariant-loop-index g l =
    (before : ℕ → List ℕ) → g.F.ShardFiles.holds l.initial.files before
    → (now : ℕ → List ℕ) × g.F.ShardFiles.holds l.files now × AppendsToEach l.index (λ index. head_file (numbered l.layout.origin index)) before now
