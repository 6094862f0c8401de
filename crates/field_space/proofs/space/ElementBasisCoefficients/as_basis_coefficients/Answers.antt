use Rattle.std.proofs.Common.{◌∷◌, [], ◌∙◌, ap}
use Rattle.field_base.proofs.ChunkLists.{chunk-whole, chunks-whole}
use Rattle.field_space.proofs.space.ElementBasisCoefficients.as_basis_coefficients.Goals as goal

pub returns : goal.returns
returns g c =
    let width = g.K.FieldKernel.width in
    let x = g.R.Stored.number c.args.self.now.repr in
    ap (λ n. n ∷ []) (c.basis_coefficient.ensures ∙ chunk-whole width x c.args.self.now.in_range)
    ∙ chunks-whole width x c.args.self.now.in_range
