use Rattle.tags.specs.Blocks.{blocks_of}
use Rattle.tags.proofs.universal.KeyedHashUniversalHash.finalize.Goals as goal

pub returns : goal.returns
returns g c = λ key m held. c.write.ensures key (blocks_of m) (c.take_hash.ensures.value (g.E.Encoding.multiplier key) m held)
