-- Parity that grows by one shard of data at a time: shards that stand apart, or come one after the other (J. S. Plank, 1997: a word of parity is
-- a sum of products of words of data).
use Rattle.std.specs.Prelude.{◌≡◌, ◌≢◌, ℕ, ◌+◌, ◌*◌, ◌<◌, ◌≤◌, Bool, true, false, List, length, slice_index, drop, if◌then◌else◌, bit_xor}
use Rattle.field_base.specs.Basis.{sum_below}
use Rattle.field_base.specs.Codewords.{IsCodeword}
use Rattle.reed_solomon.specs.ByteFields.{byte_times}
use Rattle.reed_solomon.specs.declared.byte_field.ByteField.TheVariants.{Qr}
use Rattle.reed_solomon.specs.Parity.{parity_factor}
use Rattle.reed_solomon.specs.Shards.{AreCodewords, IsAmongFirst, shard_byte}

-- to each byte of shard t of the parity of k shards of data the product of the byte of data shard j is added
abbrev pub AddsShard : ℕ → ℕ → ℕ → List ℕ → List ℕ → List ℕ → Type 0
AddsShard k t j shard old new =
    (column : ℕ) → column < length old
    → slice_index new column ≡ bit_xor (slice_index old column) (byte_times Qr (parity_factor k t j) (slice_index shard column))

-- to each byte the product of the byte at its place by a factor is added
abbrev pub AddsMultiple : ℕ → List ℕ → List ℕ → List ℕ → Type 0
AddsMultiple factor shard old new =
    (column : ℕ) → column < length old
    → slice_index new column ≡ bit_xor (slice_index old column) (byte_times Qr factor (slice_index shard column))

-- the factors by which the shards at hand, of k of data and others of parity, `total` in all, make shard `shard`: in each column its symbol is
-- the sum of their products, and those of shards that are not among the first k at hand are 0
pub record MakeShard (k total : ℕ) (present : List Bool) (shard : ℕ) (factors : List ℕ) : Type 0 where
  pub others : (i : ℕ) → (IsAmongFirst k present i → ⊥) → slice_index factors i ≡ 0
  pub sums : (symbol : ℕ → ℕ) → IsCodeword (byte_times Qr) k total symbol → ((i : ℕ) → i < total → symbol i < 256)
      → symbol shard ≡ sum_below (λ i. byte_times Qr (slice_index factors i) (symbol i)) total

-- in each column `sums` has the sum of the products of those shards of data that were added, for shard t of the parity
abbrev pub HasAdded : ℕ → ℕ → ℕ → List ℕ → (ℕ → Bool) → List ℕ → Type 0
HasAdded k t size shards added sums =
    (column : ℕ) → column < size → slice_index sums column
    ≡ sum_below (λ j. if added j then byte_times Qr (parity_factor k t j) (shard_byte size shards j column) else 0) k

-- zeros are the sum of none; a shard that was not added yet may be, in any order; and where each shard of the parity has the sum of all, the
-- columns are codewords
pub record AddedShardsEncode : Type 0 where
  pub none : (k t size : ℕ) (shards sums : List ℕ) → ((column : ℕ) → column < size → slice_index sums column ≡ 0)
      → HasAdded k t size shards (λ j. false) sums
  pub one_more : (k t size j : ℕ) (shards shard old new : List ℕ) (added then_added : ℕ → Bool) → j < k → length old ≡ size
      → added j ≡ false → then_added j ≡ true → ((i : ℕ) → i ≢ j → then_added i ≡ added i)
      → ((column : ℕ) → column < size → slice_index shard column ≡ shard_byte size shards j column)
      → AddsShard k t j shard old new → HasAdded k t size shards added old → HasAdded k t size shards then_added new
  pub all : (k m size : ℕ) (shards : List ℕ) (added : ℕ → Bool) → k + m ≤ 256 → ((i : ℕ) → slice_index shards i < 256)
      → ((j : ℕ) → j < k → added j ≡ true)
      → ((t : ℕ) → t < m → HasAdded k t size shards added (drop ((k + t) * size) shards)) → AreCodewords k (k + m) size shards
