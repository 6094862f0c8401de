-- The shards of a file in one stripe: which of them files give, and when they are enough.
use Rattle.std.specs.Prelude.{◌≡◌, ◌⊎◌, ℕ, ◌+◌, ◌*◌, ◌<◌, ◌≤◌, Bool, List, [], length, slice_index_or, take, drop, Option, Some}
use Rattle.sha2.specs.Sha256.{sha256}
use Rattle.reed_solomon.specs.Shards.{IsPresent, present_count}
use Rattle.shard_files.specs.Heads.{head_digest, head_file}
use Rattle.shard_files.specs.Pieces.{piece_bytes}
use Rattle.shard_files.specs.Splits.{BeginWith, IsSplit}
use Rattle.shard_files.specs.Stripes.{piece_start, shard_total, stripe_content, stripe_total}
use Rattle.shard_files.specs.declared.head.Head.{Head}
use Rattle.shard_files.specs.declared.head.Origin.{Origin}

-- the head of shard `index` of a file
abbrev pub numbered : Origin → ℕ → Head
numbered origin index = record { origin = origin; index = index }

-- the digests of the heads of the first `count` shards of a file, in order
pub record AreHeadDigests (origin : Origin) (count : ℕ) (digests : List (List ℕ)) : Type 0 where
  pub long : length digests ≡ count
  pub are : (index : ℕ) → index < count → slice_index_or digests index [] ≡ head_digest (numbered origin index)

-- the bytes of shard `index`, where shards of one size stand one after the other
unfoldable pub shard_at : ℕ → List ℕ → ℕ → List ℕ
shard_at size shards index = take size (drop (index * size) shards)

-- files that can be read: how many there are, and what reading so many bytes from a place on gives in the one of a number, or nothing where
-- they cannot be read
pub record Holdings : Type 0 where
  pub places : ℕ
  pub reads : ℕ → ℕ → ℕ → Option (List ℕ)

-- the file of a number has this head, and in its place the piece of a stripe with these bytes
abbrev pub GivesPiece : Holdings → ℕ → Head → ℕ → List ℕ → Type 0
GivesPiece files place head stripe shard =
    (files.reads place 0 104 ≡ Some (head_file head))
    × (files.reads place (piece_start head.origin stripe) (32 + head.origin.size) ≡ Some (piece_bytes (head_digest head) stripe shard))

-- once the first `until` files were looked at: each shard at hand in the stripe is what one of them gives, and each shard of this origin and
-- size that one of them gives is at hand, or another of its number
pub record IsGathered (origin : Origin) (files : Holdings) (stripe until : ℕ) (shards : List ℕ) (present : List Bool) : Type 0 where
  pub found : (index : ℕ) → index < shard_total origin → IsPresent present index
      → (place : ℕ) × (place < until) × GivesPiece files place (numbered origin index) stripe (shard_at origin.size shards index)
  pub missed : (index : ℕ) (shard : List ℕ) (place : ℕ) → index < shard_total origin → length shard ≡ origin.size → place < until
      → GivesPiece files place (numbered origin index) stripe shard → IsPresent present index

-- what is at hand before and after one more file was looked at, of which it is known which shards it gives
pub record Takes (origin : Origin) (gives : ℕ → List ℕ → Type 0) (old : List ℕ) (had : List Bool) (new : List ℕ) (has : List Bool) : Type 0 where
  pub keeps : (index : ℕ) → index < shard_total origin → IsPresent had index
      → IsPresent has index × (shard_at origin.size new index ≡ shard_at origin.size old index)
  pub found : (index : ℕ) → index < shard_total origin → IsPresent has index
      → IsPresent had index ⊎ gives index (shard_at origin.size new index)
  pub missed : (index : ℕ) (shard : List ℕ) → index < shard_total origin → length shard ≡ origin.size → gives index shard → IsPresent has index

-- bytes are those of a head of this origin and of its piece of a stripe
abbrev pub AreOf : Origin → ℕ → List ℕ → List ℕ → ℕ → List ℕ → Type 0
AreOf origin stripe head piece index shard =
    (head ≡ head_file (numbered origin index)) × (piece ≡ piece_bytes (head_digest (numbered origin index)) stripe shard)

-- what is at hand before and after a shard was put to its place
pub record Puts (total size index : ℕ) (shard : List ℕ) (old : List ℕ) (had : List Bool) (new : List ℕ) (has : List Bool) : Type 0 where
  pub keeps : (other : ℕ) → other < total → IsPresent had other → IsPresent has other × (shard_at size new other ≡ shard_at size old other)
  pub found : (other : ℕ) → other < total → IsPresent has other → IsPresent had other ⊎ ((other ≡ index) × (shard_at size new other ≡ shard))
  pub put : index < total → length shard ≡ size → IsPresent has index

-- two lists of all shards have the same bytes in each of those that are at hand
abbrev pub HaveSameShards : Origin → List Bool → List ℕ → List ℕ → Type 0
HaveSameShards origin present one other =
    (index : ℕ) → index < shard_total origin → IsPresent present index → shard_at origin.size one index ≡ shard_at origin.size other index

-- as many shards as the data have are at hand, each as content was split into it
pub record HasEnough (origin : Origin) (content whole shards : List ℕ) (present : List Bool) : Type 0 where
  pub split : IsSplit origin content whole
  pub long : length whole ≡ length shards
  pub same : HaveSameShards origin present shards whole
  pub enough : origin.data_shards ≤ present_count present

-- files give as many of these shards of a stripe, which stand one after the other, as the data have, each behind a head of this origin
pub record GivesEnough (origin : Origin) (files : Holdings) (stripe : ℕ) (whole : List ℕ) : Type 0 where
  pub long : length whole ≡ shard_total origin * origin.size
  pub left : List Bool
  pub left_long : length left ≡ shard_total origin
  pub enough : origin.data_shards ≤ present_count left
  pub there : (index : ℕ) → IsPresent left index
      → (place : ℕ) × (place < files.places) × GivesPiece files place (numbered origin index) stripe (shard_at origin.size whole index)

-- bytes of the length that the origin names stand, stripe by stripe, at the start of shards of which files give enough
pub record AreGiven (origin : Origin) (files : Holdings) (content : List ℕ) (wholes : List (List ℕ)) : Type 0 where
  pub length_is : length content ≡ origin.length
  pub begins : (stripe : ℕ) → stripe < stripe_total origin → BeginWith (stripe_content origin stripe content) (slice_index_or wholes stripe [])
  pub given : (stripe : ℕ) → stripe < stripe_total origin → GivesEnough origin files stripe (slice_index_or wholes stripe [])

-- files give enough shards of a stripe: content was split into `whole`, what they give as shards of this origin is of that, and as many
-- of the shards as the data have are given
pub record GivesStripe (origin : Origin) (files : Holdings) (stripe : ℕ) (content whole : List ℕ) : Type 0 where
  pub split : IsSplit origin content whole
  pub true_ones : (index place : ℕ) (shard : List ℕ) → index < shard_total origin → place < files.places → length shard ≡ origin.size
      → GivesPiece files place (numbered origin index) stripe shard → shard ≡ shard_at origin.size whole index
  pub given : GivesEnough origin files stripe whole

-- files give enough shards of each stripe of a file with these bytes, which is the one that the origin names; `wholes` are all shards of each stripe
pub record GivesFile (origin : Origin) (files : Holdings) (content : List ℕ) (wholes : ℕ → List ℕ) : Type 0 where
  pub length_is : length content ≡ origin.length
  pub identity_is : sha256 content ≡ origin.identity
  pub stripes : (stripe : ℕ) → stripe < stripe_total origin → GivesStripe origin files stripe (stripe_content origin stripe content) (wholes stripe)
