use Rattle.std.proofs.Common.{refl}
use Rattle.tags.specs.Absorbed.{Holds}
use Rattle.tags.specs.Blocks.{first_blocks}
use Rattle.tags.proofs.Padding.{hash-zero_padded}
use Rattle.tags.proofs.absorber.Absorber.take_hash.Goals as goal

pub returns-clause-value : goal.returns-clause-value
returns-clause-value g c = λ key m held. hash-zero_padded g.E.Encoding.element key c.pad.new.self m (c.pad.ensures key m held)

pub returns-clause-cleared : goal.returns-clause-cleared
unfolding Holds first_blocks
returns-clause-cleared g c = λ key m held. ((c.pad.ensures key m held).0, refl, (refl, refl))
