-- What split writes, with any shards lost or damaged as long as enough are left in each stripe, is what join writes the file from; and one
-- file is split in one way alone, so that shards of two splits by one origin are joined together.
use Rattle.std.specs.Prelude.{◌≡◌, ℕ, ◌+◌, ◌*◌, ◌<◌, ◌≤◌, Bool, List, [], length, take, drop, slice_index_or, Some}
use Rattle.reed_solomon.specs.Shards.{IsPresent, present_count}
use Rattle.shard_files.specs.Files.{AreShards, shard_file}
use Rattle.shard_files.specs.Groups.{GivesPiece, GivesFile, Holdings, numbered, shard_at}
use Rattle.shard_files.specs.Heads.{IsOrigin}
use Rattle.shard_files.specs.Splits.{IsSplit}
use Rattle.shard_files.specs.Stripes.{IsPossible, piece_start, shard_total, stripe_total}
use Rattle.shard_files.specs.declared.head.Origin.{Origin}

-- the file of one number reads, where its head and its piece of a stripe stand, as the file of shard `index` was written
abbrev pub IsLeft : Origin → List (List ℕ) → Holdings → ℕ → ℕ → Type 0
IsLeft origin wholes files stripe index =
    (place : ℕ) × (place < files.places) × (files.reads place 0 104 ≡ Some (take 104 (shard_file origin wholes index)))
    × (files.reads place (piece_start origin stripe) (32 + origin.size)
    ≡ Some (take (32 + origin.size) (drop (piece_start origin stripe) (shard_file origin wholes index))))

-- of a stripe as many shards are left as the data have
pub record EnoughAreLeft (origin : Origin) (wholes : List (List ℕ)) (files : Holdings) (stripe : ℕ) : Type 0 where
  pub left : List Bool
  pub left_long : length left ≡ shard_total origin
  pub enough : origin.data_shards ≤ present_count left
  pub there : (index : ℕ) → index < shard_total origin → IsPresent left index → IsLeft origin wholes files stripe index

-- what is not as it was written has not the digests of a head of this origin and of a piece
abbrev pub DamageIsSeen : Origin → List (List ℕ) → Holdings → Type 0
DamageIsSeen origin wholes files =
    (stripe index place : ℕ) (shard : List ℕ) → stripe < stripe_total origin → index < shard_total origin → place < files.places
    → length shard ≡ origin.size → GivesPiece files place (numbered origin index) stripe shard
    → shard ≡ shard_at origin.size (slice_index_or wholes stripe []) index

-- files whose shards are those that a file was split into, as far as they are left, give the file
abbrev pub ShardsReturn : Type 0
ShardsReturn = (origin : Origin) (content : List ℕ) (wholes : List (List ℕ)) (files : Holdings) → IsPossible origin → IsOrigin origin
    → AreShards origin content wholes → ((stripe : ℕ) → stripe < stripe_total origin → EnoughAreLeft origin wholes files stripe)
    → DamageIsSeen origin wholes files → GivesFile origin files content (λ stripe. slice_index_or wholes stripe [])

-- bytes are split in one way: all shards of a stripe are determined by its bytes and by the origin
abbrev pub SplitsAreOne : Type 0
SplitsAreOne = (origin : Origin) (content one other : List ℕ) → IsPossible origin
    → length one ≡ shard_total origin * origin.size → length other ≡ shard_total origin * origin.size
    → IsSplit origin content one → IsSplit origin content other → one ≡ other

-- and so are all shards of a file
abbrev pub FilesAreOne : Type 0
FilesAreOne = (origin : Origin) (content : List ℕ) (wholes others : List (List ℕ)) → IsPossible origin
    → AreShards origin content wholes → AreShards origin content others → wholes ≡ others
