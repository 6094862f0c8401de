-- Shards as vectors of bytes, of which some are missing, and the one list of bytes that they stand for.
use Rattle.std.specs.Prelude.{◌≡◌, ◌≢◌, ◌⊎◌, ℕ, ◌<◌, ◌≤◌, Bool, false, not, List, [], ◌∷◌, length, map, replicate, is_some, slice_index, slice_index_or, flat_map, Option, Some, None, IsSome, Result, IsOk, IfErr, OnErr}
use Rattle.std.specs.declared.vec.Vec.{Vec}
use Rattle.reed_solomon.specs.Shards.{IsPresent, IsReconstructed, present_count, shard_byte}
use Rattle.reed_solomon.specs.declared.shard_vectors.error.ShardVectorError.{ShardVectorError}
use Rattle.reed_solomon.specs.declared.shard_vectors.error.ShardVectorError.TheVariants.{TooFewShards, TooManyShards, IncorrectShardSize, TooFewShardsPresent, EmptyShard, Memory}

-- the bytes of a shard; a missing one stands for as many zeros as a shard has bytes
abbrev pub shard_content : {Z : Type 0} → ℕ → Option (Vec ℕ Z) → List ℕ
shard_content size None = replicate size 0
shard_content size (Some shard) = shard.items

-- the bytes of all shards, one shard after the other
abbrev pub joined_shards : {Z : Type 0} → ℕ → List (Option (Vec ℕ Z)) → List ℕ
joined_shards size shards = flat_map (shard_content size) shards

-- which shards are at hand
abbrev pub shard_flags : {Z : Type 0} → List (Option (Vec ℕ Z)) → List Bool
shard_flags shards = map is_some shards

-- how many bytes the first shard at hand has; 0 where none is
abbrev pub first_size : {Z : Type 0} → List (Option (Vec ℕ Z)) → ℕ
first_size [] = 0
first_size (None ∷ rest) = first_size rest
first_size (Some shard ∷ rest) = length shard.items

-- each shard at hand has so many bytes
abbrev pub HaveSize : {Z : Type 0} → ℕ → List (Option (Vec ℕ Z)) → Type 0
HaveSize size shards = (i : ℕ) → length (shard_content size (slice_index_or shards i None)) ≡ size

-- the missing shards before shard `until` are there, those that were at hand and those from shard `until` on are as they were, and
-- all have one size: joined, they are what `reconstruct` makes of the bytes of all, with zeros for those that were missing
pub record AreRestored {Z : Type 0} (k total until : ℕ) (before after : List (Option (Vec ℕ Z))) : Type 0 where
  pub keeps : (i : ℕ) → (IsPresent (shard_flags before) i) ⊎ (until ≤ i) → slice_index_or after i None ≡ slice_index_or before i None
  pub whole : (i : ℕ) → i < until → IsSome (slice_index_or after i None)
  pub sizes : HaveSize (first_size before) after
  pub restored : IsReconstructed k total (first_size before) until (shard_flags before)
      (joined_shards (first_size before) before) (joined_shards (first_size before) after)

-- there are as many shards as the code has, those at hand have one size, which is not 0, and as many as the data are at hand
pub record CanRestore {Z : Type 0} (k total : ℕ) (shards : List (Option (Vec ℕ Z))) : Type 0 where
  pub count : length shards ≡ total
  pub sizes : HaveSize (first_size shards) shards
  pub enough : k ≤ present_count (shard_flags shards)
  pub some : first_size shards ≢ 0

-- why shards are not restored: the first that applies, and for want of memory only where nothing else does
pub record RestoreError {Z : Type 0} (k total : ℕ) (shards : List (Option (Vec ℕ Z))) (error : ShardVectorError) : Type 0 where
  pub few : length shards < total → error ≡ TooFewShards
  pub many : total < length shards → error ≡ TooManyShards
  pub sizes : length shards ≡ total → (HaveSize (first_size shards) shards → ⊥) → error ≡ IncorrectShardSize
  pub present : length shards ≡ total → HaveSize (first_size shards) shards
      → present_count (shard_flags shards) < k → error ≡ TooFewShardsPresent
  pub empty : length shards ≡ total → HaveSize (first_size shards) shards → k ≤ present_count (shard_flags shards)
      → first_size shards ≡ 0 → error ≡ EmptyShard
  pub memory : CanRestore k total shards → error ≡ Memory

-- what a call answers that restores the missing shards before shard `until`: where it accepts they could be restored, and are, and where it
-- refuses it says why, and the shards are as they were
abbrev pub RestoresUntil : {Z T : Type 0} → ℕ → ℕ → ℕ → List (Option (Vec ℕ Z)) → List (Option (Vec ℕ Z)) → Result T ShardVectorError → Type 0
RestoresUntil k total until before after result =
    (IsOk result → CanRestore k total before × AreRestored k total until before after)
    × IfErr result (RestoreError k total before) × OnErr result (after ≡ before)

-- a shard that is made where one is missing: bytes i * size to (i + 1) * size of the bytes of all
pub record IsMade {Z : Type 0} (size i : ℕ) (bytes : List ℕ) (is_present : Bool) (made : Option (Vec ℕ Z)) : Type 0 where
  pub where_missing : is_some made ≡ not is_present
  pub long : length (shard_content size made) ≡ size
  pub bytes_are : is_present ≡ false → (column : ℕ) → column < size
      → slice_index (shard_content size made) column ≡ shard_byte size bytes i column

-- vectors for the missing shards before shard `until`, from the bytes of all as they are reconstructed
pub record AreMade {Z : Type 0} (k total until size : ℕ) (present : List Bool) (shards made : List (Option (Vec ℕ Z))) : Type 0 where
  pub joined : List ℕ
  pub reconstructed : IsReconstructed k total size until present (joined_shards size shards) joined
  pub count : length made ≡ until
  pub each : (i : ℕ) → i < until → IsMade size i joined (slice_index_or present i false) (slice_index_or made i None)
