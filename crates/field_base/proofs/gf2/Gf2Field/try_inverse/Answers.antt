use Rattle.field_base.specs.lemmas.BitRing.{bit_times_itself}
use Rattle.field_base.proofs.gf2.Gf2Field.try_inverse.Goals as goal

pub returns-else-self-eq0-clause-inverse : goal.returns-else-self-eq0-clause-inverse
returns-else-self-eq0-clause-inverse c =
    bit_times_itself c.args.self.now.repr c.args.self.now.in_range c.if-self-eq0.false
