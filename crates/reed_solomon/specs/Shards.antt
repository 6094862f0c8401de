-- Shards: the rows of an erasure code (J. S. Plank, A tutorial on Reed-Solomon coding for fault-tolerance in RAID-like systems,
-- 1997). Shards of one size stand one after the other in a list of bytes; the first k are the data, the rest the parity. Column
-- `column` has byte `column` of each shard, and is a codeword of its own.
use Rattle.std.specs.Prelude.{◌≡◌, ◌⊎◌, ℕ, ◌+◌, ◌*◌, ◌/◌, ◌<◌, ◌≤◌, Bool, true, false, List, length, slice_index, slice_index_or, take}
use Rattle.std.specs.List.{count_by}
use Rattle.field_base.specs.Codewords.{IsCodeword}
use Rattle.reed_solomon.specs.ByteFields.{byte_times}
use Rattle.reed_solomon.specs.declared.byte_field.ByteField.TheVariants.{Qr}

-- byte `column` of shard i
abbrev pub shard_byte : ℕ → List ℕ → ℕ → ℕ → ℕ
shard_byte size shards i column = slice_index shards (i * size + column)

-- each column is a codeword of k symbols of data
abbrev pub AreCodewords : ℕ → ℕ → ℕ → List ℕ → Type 0
AreCodewords k total size shards =
    (column : ℕ) → column < size → IsCodeword (byte_times Qr) k total (λ i. shard_byte size shards i column)

-- the first k shards are as they were, and each column is a codeword: the parity is that of the data
pub record IsEncoded (k total size : ℕ) (before after : List ℕ) : Type 0 where
  pub keeps_data : (i column : ℕ) → i < k → column < size → shard_byte size after i column ≡ shard_byte size before i column
  pub codewords : AreCodewords k total size after

-- shard i is at hand
abbrev pub IsPresent : List Bool → ℕ → Type 0
IsPresent present i = slice_index_or present i false ≡ true

-- how many shards are at hand
abbrev pub present_count : List Bool → ℕ
present_count present = count_by (λ is_present. is_present) present

-- shard i is one of the first k that are at hand
abbrev pub IsAmongFirst : ℕ → List Bool → ℕ → Type 0
IsAmongFirst k present i = IsPresent present i × (present_count (take i present) < k)

-- in one column, the missing shards before shard `until` have the symbols of a codeword that agrees with the first k at hand
pub record RestoresColumn (k total size until : ℕ) (present : List Bool) (before after : List ℕ) (column : ℕ) : Type 0 where
  pub word : ℕ → ℕ
  pub is_codeword : IsCodeword (byte_times Qr) k total word
  pub agrees : (i : ℕ) → i < total → IsAmongFirst k present i → shard_byte size before i column ≡ word i
  pub missing : (i : ℕ) → i < until → (IsPresent present i → ⊥) → shard_byte size after i column ≡ word i

-- shards that are at hand, and those from shard `until` on, are as they were, and in each column the missing ones before it
-- have the symbols of the one codeword that agrees with the first k shards at hand
pub record IsReconstructed (k total size until : ℕ) (present : List Bool) (before after : List ℕ) : Type 0 where
  pub keeps : (i column : ℕ) → i < total → column < size → (IsPresent present i) ⊎ (until ≤ i)
      → shard_byte size after i column ≡ shard_byte size before i column
  pub restores : (column : ℕ) → column < size → RestoresColumn k total size until present before after column

-- the missing shards before shard `until` are restored, of k shards of data and m of parity
abbrev pub AreReconstructed : ℕ → ℕ → ℕ → List Bool → List ℕ → List ℕ → Type 0
AreReconstructed k m until present before after = IsReconstructed k (k + m) (length before / (k + m)) until present before after
