-- What files are by the bytes that they begin with, and which file is restored: the one of which enough shards were seen, among those that are
-- wanted.
use Rattle.std.specs.Prelude.{◌≡◌, ◌≢◌, ◌⊎◌, ℕ, ◌<◌, ◌≤◌, Bool, true, false, List, [], length, map, slice_index, slice_index_or, take, Option, Some, None}
use Rattle.shard_files.specs.Heads.{format_name, head_file, IsOrigin}
use Rattle.shard_files.specs.Stripes.{IsPossible, shard_total}
use Rattle.shard_files.specs.declared.head.Head.{Head}
use Rattle.shard_files.specs.declared.head.Origin.{Origin}
use Rattle.shard_files.specs.declared.scan.Choice.{Choice}
use Rattle.shard_files.specs.declared.scan.Choice.TheVariants.{Nothing, Only, Several, TooFew}
use Rattle.shard_files.specs.declared.scan.Finding.{Finding}
use Rattle.shard_files.specs.declared.scan.Finding.TheVariants.{Damaged, OldFormat, OtherCode, Shard, Unread}
use Rattle.shard_files.specs.declared.scan.Seen.{Seen}

-- what the heads of the shards of the file at a place say
abbrev pub origin_at : List Seen → ℕ → Option Origin
origin_at seen place = slice_index_or (map (λ file. Some file.layout.origin) seen) place None

-- each file that was seen stands where it stood
abbrev pub StillSeen : List Seen → List Seen → Type 0
StillSeen old new = (place : ℕ) (origin : Origin) → origin_at old place ≡ Some origin → origin_at new place ≡ Some origin

-- a head of a shard that there may be
pub record IsKnown (head : Head) : Type 0 where
  pub possible : IsPossible head.origin
  pub fits : IsOrigin head.origin
  pub inside : head.index < shard_total head.origin

-- what a file is that begins with these bytes: a shard where they are such a head, and else an older one by its name, one by another code, or
-- damaged
abbrev pub IsFinding : List Seen → List ℕ → Finding → Type 0
IsFinding seen bytes Unread = ⊥
IsFinding seen bytes Damaged = (head : Head) → IsKnown head → bytes ≢ head_file head
IsFinding seen bytes (OldFormat version) = ((version ≡ 1) ⊎ (version ≡ 2)) × (take 8 bytes ≡ format_name version)
IsFinding seen bytes (OtherCode code) = (head : Head) × (bytes ≡ head_file head) × (head.origin.code ≡ code) × (2 < code)
IsFinding seen bytes (Shard place index) =
    (head : Head) × (bytes ≡ head_file head) × IsKnown head × (head.index ≡ index) × (origin_at seen place ≡ Some head.origin)

-- a file that begins with the head of shard `index` of these is that shard, at its place, or damaged where there is no such shard
abbrev pub IsPlaced : List Seen → Origin → ℕ → Finding → Type 0
IsPlaced seen origin index Damaged = shard_total origin ≤ index
IsPlaced seen origin index (Shard place own) = (index < shard_total origin) × (own ≡ index) × (origin_at seen place ≡ Some origin)
IsPlaced seen origin index Unread = ⊥
IsPlaced seen origin index (OldFormat version) = ⊥
IsPlaced seen origin index (OtherCode code) = ⊥

-- how many shards were seen of the file at a place
abbrev pub count_at : List Seen → ℕ → ℕ
count_at seen place = slice_index (map (λ file. file.count) seen) place

-- which file it is: its SHA-256, or none behind the last
abbrev pub identity_at : List Seen → ℕ → List ℕ
identity_at seen place = slice_index_or (map (λ file. file.layout.origin.identity) seen) place []

-- as many as its data have
pub record EnoughSeen (seen : List Seen) (place : ℕ) : Type 0 where
  pub inside : place < length seen
  pub enough : slice_index (map (λ file. file.layout.origin.data_shards) seen) place ≤ count_at seen place

-- a file is wanted, and stands among the first so many
pub record IsWanted (wanted : List Bool) (until place : ℕ) : Type 0 where
  pub early : place < until
  pub flag : slice_index_or wanted place false ≡ true

-- no other wanted one has more shards, and none enough
pub record HasMost (seen : List Seen) (wanted : List Bool) (until chosen : ℕ) : Type 0 where
  pub is_wanted : IsWanted wanted until chosen
  pub few : (place : ℕ) → IsWanted wanted until place → EnoughSeen seen place → ⊥
  pub most : (place : ℕ) → IsWanted wanted until place → count_at seen place ≤ count_at seen chosen

-- it has enough, and each other wanted one that has is the same file
pub record IsOnly (seen : List Seen) (wanted : List Bool) (until chosen : ℕ) : Type 0 where
  pub is_wanted : IsWanted wanted until chosen
  pub enough : EnoughSeen seen chosen
  pub others : (place : ℕ) → IsWanted wanted until place → EnoughSeen seen place → identity_at seen place ≡ identity_at seen chosen

-- two that have enough are different files
pub record AreSeveral (seen : List Seen) (wanted : List Bool) (until : ℕ) : Type 0 where
  pub one : ℕ
  pub one_wanted : IsWanted wanted until one
  pub one_enough : EnoughSeen seen one
  pub other : ℕ
  pub other_wanted : IsWanted wanted until other
  pub other_enough : EnoughSeen seen other
  pub differ : identity_at seen one ≢ identity_at seen other

-- what is chosen among the first `until` files: nothing, where none is wanted
abbrev pub IsChoice : List Seen → List Bool → ℕ → Choice → Type 0
IsChoice seen wanted until Nothing = (place : ℕ) → IsWanted wanted until place → ⊥
IsChoice seen wanted until (TooFew chosen) = HasMost seen wanted until chosen
IsChoice seen wanted until (Only chosen) = IsOnly seen wanted until chosen
IsChoice seen wanted until Several = AreSeveral seen wanted until
