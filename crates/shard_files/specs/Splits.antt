-- A file in shards: the bytes of a stripe stand at the start of the shards of data, zeros behind them, and the parity is theirs.
use Rattle.std.specs.Prelude.{◌≡◌, ◌<◌, ◌≤◌, List, ℕ, length, slice_index, take}
use Rattle.shard_files.specs.Codes.{IsStripeWord}
use Rattle.shard_files.specs.Stripes.{stripe_width}
use Rattle.shard_files.specs.declared.head.Origin.{Origin}

-- all shards of a stripe begin with these bytes
abbrev pub BeginWith : List ℕ → List ℕ → Type 0
BeginWith content shards = take (length content) shards ≡ content

-- all shards of a stripe are those of these bytes, by the code that the origin names: the shards of data are the bytes, and zeros behind them
pub record IsSplit (origin : Origin) (content shards : List ℕ) : Type 0 where
  pub begins : BeginWith content shards
  pub padded : (i : ℕ) → length content ≤ i → i < stripe_width origin → slice_index shards i ≡ 0
  pub code_word : IsStripeWord origin.code origin.data_shards origin.parity_shards origin.size shards
