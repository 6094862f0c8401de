use Rattle.std.proofs.Common.{◌∙◌, ap, map}
use Rattle.field_base.proofs.ChunkLists.{chunks-whole}
use Rattle.field_space.proofs.space.Gf2BasisCoefficientsSlice.as_basis_coefficients_slice.Goals as goal

pub returns : goal.returns
returns c = ap (map (λ x. x.repr)) c.from_ref.ensures.value ∙ chunks-whole 1 c.args.self.now.repr c.args.self.now.in_range
