use Rattle.std.proofs.Common.{◌∙◌, ap, map}
use Rattle.field_base.proofs.ChunkLists.{chunks-whole}
use Rattle.field_space.proofs.space.ElementBasisCoefficientsSlice.as_basis_coefficients_slice.Goals as goal

pub returns : goal.returns
returns g c =
    ap (map (λ x. g.R.Stored.number x.repr)) c.from_ref.ensures.value
    ∙ chunks-whole g.K.FieldKernel.width (g.R.Stored.number c.args.self.now.repr) c.args.self.now.in_range
