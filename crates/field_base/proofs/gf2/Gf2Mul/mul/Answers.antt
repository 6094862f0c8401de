use Rattle.field_base.specs.lemmas.BitRing.{bit_and-bits}
use Rattle.field_base.specs.Tower.{tower_mul}
use Rattle.field_base.proofs.gf2.Gf2Mul.mul.Goals as goal

pub returns : goal.returns
unfolding tower_mul
returns c = bit_and-bits c.args.self.repr c.args.self.in_range c.args.other.repr c.args.other.in_range
