use Rattle.tags.specs.Blocks.{blocks_of}
use Rattle.tags.proofs.universal.KeyedHashUniversalHash.finalize_reset.Goals as goal

pub returns-clause-value : goal.returns-clause-value
returns-clause-value g c = λ key m held.
    c.write.ensures key (blocks_of m) (c.take_hash.ensures.value (g.E.Encoding.multiplier key) m held)

pub returns-clause-empty : goal.returns-clause-empty
returns-clause-empty g c = λ key m held. c.take_hash.ensures.cleared (g.E.Encoding.multiplier key) m held
