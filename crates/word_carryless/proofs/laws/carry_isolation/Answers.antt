use Rattle.word_carryless.proofs.CarryIsolation.{carry_isolation}
use Rattle.word_carryless.proofs.laws.carry_isolation.Goals as goal

pub returns : goal.returns
returns c = carry_isolation
