use Rattle.std.proofs.Common.{◌∙◌}
use Rattle.field_slices.specs.Matrices.{entry_of}
use Rattle.field_slices.proofs.InverseMatrices.{beside-none}
use Rattle.field_slices.proofs.identities.identity_into.Goals as goal

pub returns-clause-entries : goal.returns-clause-entries
returns-clause-entries g c =
    let number = g.S.Scalars.number c.args.field in
    λ i j below inside.
    c.write_identity.ensures.entries i j below inside ∙ beside-none (entry_of number c.args.size c.args.target.now) i j
