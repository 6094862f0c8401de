-- The shards that are to be written: the missing ones before one of them, and the tables by which they are made of those at hand.
use Rattle.std.specs.Prelude.{◌≡◌, ◌⊎◌, ℕ, ◌+◌, ◌/◌, ◌<◌, ◌≤◌, Bool, List, length, slice_index, take}
use Rattle.field_base.specs.Interpolation.{lagrange}
use Rattle.reed_solomon.specs.ByteFields.{byte_times}
use Rattle.reed_solomon.specs.declared.byte_field.ByteField.TheVariants.{Qr}
use Rattle.reed_solomon.specs.Samples.{IsSample}
use Rattle.reed_solomon.specs.Shards.{IsPresent, IsReconstructed, present_count, shard_byte}
use Rattle.reed_solomon.specs.Tables.{HaveRows}

-- the first `count` entries of `places` are the places before `until` of the missing shards, in order
pub record AreMissing (present : List Bool) (until : ℕ) (places : List ℕ) (count : ℕ) : Type 0 where
  pub inside : (t : ℕ) → t < count → slice_index places t < until
  pub absent : (t : ℕ) → t < count → IsPresent present (slice_index places t) → ⊥
  pub rising : (s t : ℕ) → s < t → t < count → slice_index places s < slice_index places t
  pub covers : (i : ℕ) → i < until → (IsPresent present i → ⊥) → (t : ℕ) × (t < count) × (slice_index places t ≡ i)
  pub counted : count + present_count (take until present) ≡ until

-- of k shards of data and others, `total` in all: the tables of the missing ones, in order, by the first k that are at hand
pub record HaveMissingTables (k total : ℕ) (present : List Bool) (tables : List ℕ) : Type 0 where
  pub places : List ℕ
  pub targets : List ℕ
  pub missing : ℕ
  pub sample : IsSample k present total places k
  pub lost : AreMissing present total targets missing
  pub rows : HaveRows (λ t j. lagrange 8 (byte_times Qr) (slice_index places) k j (slice_index targets t)) k missing tables

-- shards after the missing ones before shard `until` were written by tables: they are reconstructed where these are the tables of the missing
-- shards. Shards at hand and those from shard `until` on stay by any tables
pub record IsReconstructedBy (k total size until : ℕ) (present : List Bool) (tables before after : List ℕ) : Type 0 where
  pub restored : HaveMissingTables k total present tables → IsReconstructed k total size until present before after
  pub keeps : (i column : ℕ) → i < total → column < size → (IsPresent present i) ⊎ (until ≤ i)
      → shard_byte size after i column ≡ shard_byte size before i column
  pub long : length after ≡ length before

-- the same of k shards of data and m of parity
abbrev pub AreReconstructedBy : ℕ → ℕ → ℕ → List Bool → List ℕ → List ℕ → List ℕ → Type 0
AreReconstructedBy k m until present tables before after =
    IsReconstructedBy k (k + m) (length before / (k + m)) until present tables before after
