-- The files of the shards of a file: the head of each, and behind it a piece of each stripe.
use Rattle.std.specs.Prelude.{◌≡◌, ◌≢◌, ◌⊎◌, ℕ, ◌+◌, ◌*◌, ◌<◌, ◌≤◌, Bool, true, false, List, [], ◌∷◌, ◌++◌, length, slice_index_or}
use Rattle.sha2.specs.Sha256.{sha256}
use Rattle.shard_files.specs.Groups.{numbered, shard_at}
use Rattle.shard_files.specs.Heads.{head_digest, head_file}
use Rattle.shard_files.specs.Pieces.{piece_bytes}
use Rattle.shard_files.specs.Splits.{BeginWith, IsSplit}
use Rattle.shard_files.specs.Stripes.{shard_total, stripe_content, stripe_total}
use Rattle.shard_files.specs.declared.head.Head.{Head}
use Rattle.shard_files.specs.declared.head.Origin.{Origin}

-- the pieces of the shard of a head, by all shards of each stripe from the one of number `stripe` on
abbrev pub pieces_from : Head → ℕ → List (List ℕ) → List ℕ
pieces_from head stripe [] = []
pieces_from head stripe (whole ∷ wholes) =
    piece_bytes (head_digest head) stripe (shard_at head.origin.size whole head.index) ++ pieces_from head (stripe + 1) wholes

-- the file of shard `index`, by all shards of each stripe
unfoldable pub shard_file : Origin → List (List ℕ) → ℕ → List ℕ
shard_file origin wholes index = head_file (numbered origin index) ++ pieces_from (numbered origin index) 0 wholes

-- a file with these bytes, which the origin names by how many they are and by their SHA-256, stands stripe by stripe in these shards: in
-- each stripe what `are` says of its bytes and of all its shards
pub record AreStripes (are : List ℕ → List ℕ → Type 0) (origin : Origin) (content : List ℕ) (wholes : List (List ℕ)) : Type 0 where
  pub length_is : length content ≡ origin.length
  pub identity_is : sha256 content ≡ origin.identity
  pub count_is : length wholes ≡ stripe_total origin
  pub split : (stripe : ℕ) → stripe < stripe_total origin → are (stripe_content origin stripe content) (slice_index_or wholes stripe [])
  pub long : (stripe : ℕ) → stripe < stripe_total origin → length (slice_index_or wholes stripe []) ≡ shard_total origin * origin.size

-- it was split, stripe by stripe, into these shards
abbrev pub AreShards : Origin → List ℕ → List (List ℕ) → Type 0
AreShards origin content wholes = AreStripes (IsSplit origin) origin content wholes

-- the shards of data of each stripe begin with its bytes
abbrev pub HoldFile : Origin → List ℕ → List (List ℕ) → Type 0
HoldFile origin content wholes = AreStripes BeginWith origin content wholes

-- bytes were added to the file of one number, and none to any other
pub record IsAppended (index : ℕ) (bytes : List ℕ) (before after : ℕ → List ℕ) : Type 0 where
  pub grown : after index ≡ before index ++ bytes
  pub others : (other : ℕ) → other ≢ index → after other ≡ before other

-- to the file of each of the first `count` numbers its bytes were added, and none to any other
pub record AppendsToEach (count : ℕ) (bytes : ℕ → List ℕ) (before after : ℕ → List ℕ) : Type 0 where
  pub grown : (index : ℕ) → index < count → after index ≡ before index ++ bytes index
  pub others : (index : ℕ) → count ≤ index → after index ≡ before index

-- to the file of each of the first `count` numbers that is lost its bytes were added, and none to any other
pub record AppendsToLost (count : ℕ) (lost : List Bool) (bytes : ℕ → List ℕ) (before after : ℕ → List ℕ) : Type 0 where
  pub grown : (index : ℕ) → index < count → slice_index_or lost index false ≡ true → after index ≡ before index ++ bytes index
  pub others : (index : ℕ) → (slice_index_or lost index false ≡ false) ⊎ (count ≤ index) → after index ≡ before index
