use Rattle.std.proofs.Common.{sym}
use Rattle.field_base.specs.lemmas.BitRing.{root_zero-times}
use Rattle.field_base.proofs.gf2.Gf2TowerLevel.mul_alpha.Goals as goal

pub returns : goal.returns
returns c = sym (root_zero-times c.args.self.repr c.args.self.in_range)
