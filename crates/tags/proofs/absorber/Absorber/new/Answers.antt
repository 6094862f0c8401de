use Rattle.std.proofs.Common.{refl}
use Rattle.tags.specs.Absorbed.{Holds}
use Rattle.tags.specs.Blocks.{first_blocks}
use Rattle.tags.proofs.absorber.Absorber.new.Goals as goal

pub returns : goal.returns
unfolding Holds first_blocks
returns c = λ element. (c.new.ensures, refl, (refl, refl))
