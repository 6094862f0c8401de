use Rattle.field_base.proofs.ChunkLists.{chunks-whole}
use Rattle.field_space.proofs.space.Gf2BasisCoefficients.as_basis_coefficients.Goals as goal

pub returns : goal.returns
returns c = chunks-whole 1 c.args.self.now.repr c.args.self.now.in_range
