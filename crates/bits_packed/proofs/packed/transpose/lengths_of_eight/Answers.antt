use Rattle.bits_packed.proofs.Rounds.{fourfold_size, twofold_size}
use Rattle.bits_packed.proofs.packed.transpose.lengths_of_eight.Goals as goal

pub returns-clause-twofold : goal.returns-clause-twofold
returns-clause-twofold g c = twofold_size g.U.Underlier.BITS c.args.block c.args.i c.requires.block c.requires.inside

pub returns-clause-fourfold : goal.returns-clause-fourfold
returns-clause-fourfold g c = fourfold_size g.U.Underlier.BITS c.args.block c.args.i c.requires.block c.requires.inside
