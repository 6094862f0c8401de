use Rattle.field_base.specs.lemmas.BitRing.{bit_over_bit}
use Rattle.field_base.proofs.gf2.Gf2Div.div.Goals as goal

pub returns : goal.returns
returns c = bit_over_bit c.args.self.repr c.args.self.in_range c.args._other.repr c.args._other.in_range c.requires
