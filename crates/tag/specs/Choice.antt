-- The hash that the program prints.
use Rattle.std.specs.Prelude.{ℕ, List}
use Rattle.tags.specs.Blocks.{blocks_of}
use Rattle.tags.specs.Gcm.{ghash}
use Rattle.tags.specs.Polyval.{polyval}
use Rattle.tag.specs.declared.Choice.{Choice}
use Rattle.tag.specs.declared.Choice.TheVariants.{Ghash, Polyval}

-- the hash of the blocks of a message, the last one filled up with zeros, under a key
abbrev pub hash_named : Choice → List ℕ → List ℕ → List ℕ
hash_named Ghash key message = ghash key (blocks_of message)
hash_named Polyval key message = polyval key (blocks_of message)
