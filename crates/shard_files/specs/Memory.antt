-- The files of shards in memory, of which any may be lost, and when what is left of them is enough.
use Rattle.std.specs.Prelude.{◌≡◌, ℕ, zero, suc, ◌+◌, ◌<◌, ◌≤◌, Bool, true, false, List, [], ◌∷◌, length, take, drop, slice_index_or, if◌then◌else◌, nat_le, Option, Some, None, Vec}
use Rattle.std.specs.List.{count_by}
use Rattle.std.specs.declared.alloc.Global.{Global}
use Rattle.shard_files.specs.Files.{AreShards, shard_file}
use Rattle.shard_files.specs.Groups.{Holdings}
use Rattle.shard_files.specs.Heads.{IsOrigin}
use Rattle.shard_files.specs.RoundTrip.{DamageIsSeen, EnoughAreLeft}
use Rattle.shard_files.specs.Stripes.{IsPossible, shard_total, stripe_total}
use Rattle.shard_files.specs.declared.head.Origin.{Origin}

-- the bytes of the file of a number; none where there is no such file
abbrev pub file_of : List (Vec ℕ Global) → ℕ → List ℕ
file_of [] index = []
file_of (file ∷ files) zero = file.items
file_of (file ∷ files) (suc index) = file_of files index

-- so many bytes of a file from a place on, where it has them
abbrev pub bytes_from : List ℕ → ℕ → ℕ → Option (List ℕ)
bytes_from file start count = if nat_le (start + count) (length file) then Some (take count (drop start file)) else None

-- what reading in files gives
abbrev pub holdings_of : List (Vec ℕ Global) → Holdings
holdings_of files = record { places = length files; reads = λ place start count. bytes_from (file_of files place) start count }

-- the files are those of all shards of a file, by all shards of each stripe, and no other has bytes
pub record AreFiles (origin : Origin) (wholes : List (List ℕ)) (files : List (Vec ℕ Global)) : Type 0 where
  pub are : (index : ℕ) → index < shard_total origin → file_of files index ≡ shard_file origin wholes index
  pub others : (index : ℕ) → shard_total origin ≤ index → file_of files index ≡ []

-- there is a flag for each shard, and no more are set than there are shards of parity
pub record FewAreLost (origin : Origin) (lost : List Bool) : Type 0 where
  pub flags : length lost ≡ shard_total origin
  pub few : count_by (λ is_lost. is_lost) lost ≤ origin.parity_shards

-- files of which those whose flag is set have no bytes, and the others are as they were written
pub record AreFilesLeft (origin : Origin) (wholes : List (List ℕ)) (lost : List Bool) (files : List (Vec ℕ Global)) : Type 0 where
  pub few : FewAreLost origin lost
  pub gone : (index : ℕ) → slice_index_or lost index false ≡ true → file_of files index ≡ []
  pub left : (index : ℕ) → index < shard_total origin → slice_index_or lost index false ≡ false → file_of files index ≡ shard_file origin wholes index
  pub others : (index : ℕ) → shard_total origin ≤ index → file_of files index ≡ []

-- what files give is enough: in each stripe as many shards are left as the data have, and damage is seen
pub record AreEnough (origin : Origin) (wholes : List (List ℕ)) (files : Holdings) : Type 0 where
  pub enough : (stripe : ℕ) → stripe < stripe_total origin → EnoughAreLeft origin wholes files stripe
  pub seen : DamageIsSeen origin wholes files

-- where files are lost, and no other byte is changed, what is left is enough
abbrev pub LossesLeaveEnough : Type 0
LossesLeaveEnough = (origin : Origin) (content : List ℕ) (wholes : List (List ℕ)) (lost : List Bool) (files : List (Vec ℕ Global))
    → IsPossible origin → IsOrigin origin → AreShards origin content wholes → AreFilesLeft origin wholes lost files
    → AreEnough origin wholes (holdings_of files)
