use Rattle.field_base.proofs.Codewords.{many_roots_mean_zero}
use Rattle.field_base.proofs.laws.many_roots_mean_zero.Goals as goal

pub returns : goal.returns
returns c = many_roots_mean_zero
