-- The head of a shard's file, in format 3: 104 bytes, of which the last 32 are a digest of those before them.
use Rattle.std.specs.Prelude.{◌≡◌, ℕ, ◌+◌, ◌^◌, ◌<◌, List, [], ◌∷◌, ◌++◌, length}
use Rattle.std.specs.Int.{w32, w64, to_le_bytes}
use Rattle.sha2.specs.Sha256.{sha256}
use Rattle.shard_files.specs.declared.head.Head.{Head}
use Rattle.shard_files.specs.declared.head.Origin.{Origin}

-- the eight characters `shards 1`, `shards 2`, .., by which a head begins that was written in the format of that version
abbrev pub format_name : ℕ → List ℕ
format_name version = 115 ∷ 104 ∷ 97 ∷ 114 ∷ 100 ∷ 115 ∷ 32 ∷ (48 + version) ∷ []

-- those of this one
abbrev pub head_name : List ℕ
head_name = format_name 3

-- the name of the format, the code, the counts of shards of data and of parity, and the shard's number, each as four bytes, the lowest first
abbrev pub head_fields : Origin → ℕ → List ℕ
head_fields origin index =
    head_name ++ to_le_bytes w32 origin.code ++ to_le_bytes w32 origin.data_shards ++ to_le_bytes w32 origin.parity_shards ++ to_le_bytes w32 index

-- what stands before the digest: those fields, the length of the file and the bytes of a shard in a stripe as eight bytes each, the lowest
-- first, and the SHA-256 of the file, which is its identity
unfoldable pub head_begin : Head → List ℕ
head_begin head =
    head_fields head.origin head.index ++ to_le_bytes w64 head.origin.length ++ to_le_bytes w64 head.origin.size ++ head.origin.identity

-- the SHA-256 of what stands before it (FIPS 180-4)
unfoldable pub head_digest : Head → List ℕ
head_digest head = sha256 (head_begin head)

-- the bytes of a head
unfoldable pub head_file : Head → List ℕ
head_file head = head_begin head ++ head_digest head

-- what a head has room for: numbers of 32 and of 64 bits, and an identity of 32 bytes
pub record IsOrigin (origin : Origin) : Type 0 where
  pub code_fits : origin.code < 2 ^ 32
  pub data_fits : origin.data_shards < 2 ^ 32
  pub parity_fits : origin.parity_shards < 2 ^ 32
  pub length_fits : origin.length < 2 ^ 64
  pub size_fits : origin.size < 2 ^ 64
  pub identity_size : length origin.identity ≡ 32

-- and a number of 32 bits
pub record IsHead (head : Head) : Type 0 where
  pub origin_fits : IsOrigin head.origin
  pub index_fits : head.index < 2 ^ 32
