use Rattle.std.proofs.Common.{ℕ, List}
use Rattle.std.specs.Io.KnownBytes.{Consumes}
use Rattle.sha2.specs.Hashers.{Holds256}
use Rattle.shard_files.specs.Files.{AppendsToEach, shard_file}
use Rattle.shard_files.specs.Splits.{IsSplit}
use Rattle.shard_files.specs.Stripes.{shard_total}
use Rattle.shard_files.proofs.Written.{AreSoFar}
use Rattle.shard_files.proofs.writing.write_shards.Given as goal

abbrev pub invariant-loop-stripe : goal.invariant-loop-stripe
invariant-loop-stripe g l =
    (so_far : List ℕ) × (wholes : List (List ℕ)) × Consumes (g.R.Read.remaining l.fn.reader) (g.R.Read.remaining l.reader) so_far
    × Holds256 l.hasher so_far × AreSoFar (IsSplit l.layout.origin) l.layout.origin l.stripe so_far wholes
    × ((before : ℕ → List ℕ) → g.F.ShardFiles.holds l.fn.files before → (now : ℕ → List ℕ) × g.F.ShardFiles.holds l.files now
    × AppendsToEach (shard_total l.layout.origin) (shard_file l.layout.origin wholes) before now)
