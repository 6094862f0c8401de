use Rattle.field_base.proofs.Codewords.{lagrange_interpolates}
use Rattle.field_base.proofs.laws.lagrange_interpolates.Goals as goal

pub returns : goal.returns
returns c = lagrange_interpolates
