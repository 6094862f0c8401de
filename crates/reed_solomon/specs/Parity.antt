-- Parity by the shards of data alone, the sample whose places are 0, 1, .., k - 1, and the tables of its factors that are kept.
use Rattle.std.specs.Prelude.{◌≡◌, ℕ, ◌+◌, ◌*◌, ◌/◌, ◌<◌, ◌≤◌, List, length}
use Rattle.field_base.specs.Interpolation.{lagrange}
use Rattle.reed_solomon.specs.ByteFields.{byte_times}
use Rattle.reed_solomon.specs.declared.byte_field.ByteField.TheVariants.{Qr}
use Rattle.reed_solomon.specs.Samples.{symbol_at}
use Rattle.reed_solomon.specs.Shards.{shard_byte}
use Rattle.reed_solomon.specs.Tables.{HaveRows}

-- the factor of data shard j in shard t of the parity of k shards of data
abbrev pub parity_factor : ℕ → ℕ → ℕ → ℕ
parity_factor k t j = lagrange 8 (byte_times Qr) (λ i. i) k j (k + t)

-- the symbol of shard t of the parity in one column
abbrev pub parity_symbol : ℕ → ℕ → List ℕ → ℕ → ℕ → ℕ
parity_symbol k size shards t column = symbol_at k size (λ i. i) shards column (k + t)

-- shards `from` .. `until` - 1 of parity, which stand behind the data, have their symbols in columns `first` .. `end` - 1
abbrev pub MatchesParity : ℕ → ℕ → List ℕ → ℕ → ℕ → ℕ → ℕ → Type 0
MatchesParity k size shards from until first end =
    (t column : ℕ) → from ≤ t → t < until → first ≤ column → column < end
    → shard_byte size shards (k + t) column ≡ parity_symbol k size shards t column

-- how many bytes the tables of m shards of parity of k shards of data take: 32 for each two, where m is counted up to a multiple of four
abbrev pub tables_length : ℕ → ℕ → ℕ
tables_length k m = 128 * k * ((m + 3) / 4)

-- the tables of m shards of parity
pub record HaveParityTables (k m : ℕ) (tables : List ℕ) : Type 0 where
  pub long : length tables ≡ tables_length k m
  pub rows : HaveRows (parity_factor k) k m tables
