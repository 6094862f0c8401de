use Rattle.std.proofs.Common.{◌≡◌, ℕ, ◌*◌, ◌<◌, List, [], length, get_or, take}
use Rattle.sha2.specs.Hashers.{Holds256}
use Rattle.shard_files.specs.Files.{AppendsToLost, shard_file}
use Rattle.shard_files.specs.Groups.{GivesEnough, GivesFile, Holdings}
use Rattle.shard_files.specs.Splits.{BeginWith}
use Rattle.shard_files.specs.Stripes.{stripe_total, stripe_width}
use Rattle.shard_files.proofs.Written.{AreSoFar}
use Rattle.shard_files.proofs.repair.repair_shards.Given as goal

abbrev pub invariant-loop-stripe : goal.invariant-loop-stripe
invariant-loop-stripe g l =
    ((so_far : List ℕ) × (wholes : List (List ℕ)) × Holds256 l.hasher so_far × AreSoFar BeginWith l.layout.origin l.stripe so_far wholes
    × ((held : Holdings) → g.S.ShardSource.holds l.fn.source held → g.S.ShardSource.holds l.source held
    × ((s : ℕ) → s < l.stripe → GivesEnough l.layout.origin held s (get_or wholes s []))
    × ((content : List ℕ) (wholes : ℕ → List ℕ) → GivesFile l.layout.origin held content wholes → so_far ≡ take (l.stripe * stripe_width l.layout.origin) content))
    × ((before : ℕ → List ℕ) → g.F.ShardFiles.holds l.fn.files before → (now : ℕ → List ℕ) × g.F.ShardFiles.holds l.files now
    × AppendsToLost (length l.lost) l.lost (shard_file l.layout.origin wholes) before now))
    × ((held : Holdings) (content : List ℕ) (wholes : List (List ℕ)) (before : ℕ → List ℕ) → g.S.ShardSource.holds l.fn.source held
    → length wholes ≡ stripe_total l.layout.origin → GivesFile l.layout.origin held content (λ s. get_or wholes s [])
    → g.F.ShardFiles.holds l.fn.files before
    → g.S.ShardSource.holds l.source held × ((now : ℕ → List ℕ) × g.F.ShardFiles.holds l.files now
    × AppendsToLost (length l.lost) l.lost (shard_file l.layout.origin (take l.stripe wholes)) before now))
