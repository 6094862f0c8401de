use Rattle.std.proofs.Common.{◌≡◌, ◌*◌, ◌<◌, ℕ, List, [], get_or, take}
use Rattle.std.specs.Io.KnownBytes.{Appends}
use Rattle.sha2.specs.Hashers.{Holds256}
use Rattle.shard_files.specs.Groups.{GivesEnough, GivesFile, Holdings}
use Rattle.shard_files.specs.Splits.{BeginWith}
use Rattle.shard_files.specs.Stripes.{stripe_width}
use Rattle.shard_files.proofs.Written.{AreSoFar}
use Rattle.shard_files.proofs.reading.write_content.Given as goal

abbrev pub invariant-loop-stripe : goal.invariant-loop-stripe
invariant-loop-stripe g l =
    (so_far : List ℕ) × (wholes : List (List ℕ)) × Appends (g.W.Write.contents l.fn.writer) (g.W.Write.contents l.writer) so_far
    × Holds256 l.hasher so_far × AreSoFar BeginWith l.layout.origin l.stripe so_far wholes
    × ((files : Holdings) → g.S.ShardSource.holds l.fn.source files → g.S.ShardSource.holds l.source files
    × ((s : ℕ) → s < l.stripe → GivesEnough l.layout.origin files s (get_or wholes s []))
    × ((content : List ℕ) (wholes : ℕ → List ℕ) → GivesFile l.layout.origin files content wholes → so_far ≡ take (l.stripe * stripe_width l.layout.origin) content))
