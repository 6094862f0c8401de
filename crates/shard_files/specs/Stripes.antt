-- The stripes of a file: as many bytes of it as the shards of data have bytes in one stripe, and in the last what is left.
use Rattle.std.specs.Prelude.{ℕ, ◌+◌, ◌-◌, ◌*◌, ◌/◌, ◌^◌, ◌<◌, ◌≤◌, max, min, List, take, drop}
use Rattle.shard_files.specs.Codes.{HasCode}
use Rattle.shard_files.specs.declared.head.Origin.{Origin}

-- how many shards a file has
abbrev pub shard_total : Origin → ℕ
shard_total origin = origin.data_shards + origin.parity_shards

-- a code has so many shards, and positions in a shard's file are numbers of 64 bits
pub record IsPossible (origin : Origin) : Type 0 where
  pub some_data : 0 < origin.data_shards
  pub some_parity : 0 < origin.parity_shards
  pub has_code : HasCode origin.code origin.data_shards origin.parity_shards origin.size
  pub few : origin.data_shards + origin.parity_shards ≤ 65536
  pub some_size : 0 < origin.size
  pub small_size : origin.size ≤ 2 ^ 24
  pub small_length : origin.length ≤ 2 ^ 56

-- a file of so many bytes can be split by the code of that number: there is one with so many shards, in stripes of whole words (of two bytes),
-- and positions are numbers of 64 bits
abbrev pub IsSplittable : ℕ → ℕ → ℕ → ℕ → Type 0
IsSplittable code k m bytes = (0 < k) × (0 < m) × HasCode code k m 2 × (bytes ≤ 2 ^ 56)

-- the least number of parts of `each` bytes, one at least, that hold so many bytes
abbrev pub part_count : ℕ → ℕ → ℕ
part_count bytes each = max 1 ((bytes + (each - 1)) / each)

-- the most bytes that one of so many shards has of a stripe, so that all of them have some 2 ^ 24
abbrev pub most_size : ℕ → ℕ
most_size total = part_count (2 ^ 24) total

-- the least number of stripes, one at least, in which a file of so many bytes stands in k shards of data among so many
abbrev pub fewest_stripes : ℕ → ℕ → ℕ → ℕ
fewest_stripes k total bytes = part_count bytes (most_size total * k)

-- the least number of bytes, one at least, that each shard has of so many stripes, all as long as one another
abbrev pub even_size : ℕ → ℕ → ℕ → ℕ
even_size k total bytes = part_count bytes (fewest_stripes k total bytes * k)

-- how many bytes of the file a stripe has
abbrev pub stripe_width : Origin → ℕ
stripe_width origin = origin.data_shards * origin.size

-- how many stripes there are
abbrev pub stripe_total : Origin → ℕ
stripe_total origin = (origin.length + (stripe_width origin - 1)) / stripe_width origin

-- how many bytes of the file stripe `stripe` has
abbrev pub stripe_length : Origin → ℕ → ℕ
stripe_length origin stripe = min (stripe_width origin) (origin.length - stripe * stripe_width origin)

-- the bytes of the file in a stripe
abbrev pub stripe_content : Origin → ℕ → List ℕ → List ℕ
stripe_content origin stripe content = take (stripe_width origin) (drop (stripe * stripe_width origin) content)

-- where the piece of a stripe begins in a shard's file: behind the head of 104 bytes and the pieces before it, each with a digest of 32
abbrev pub piece_start : Origin → ℕ → ℕ
piece_start origin stripe = 104 + stripe * (32 + origin.size)
