use Rattle.std.proofs.Common.{◌∙◌}
use Rattle.field_base.proofs.ChunkLists.{chunk-whole}
use Rattle.field_space.proofs.extension.ExtensionField.as_base.Goals as goal

pub returns-then-is_in_basefield-clause-base : goal.returns-then-is_in_basefield-clause-base
returns-then-is_in_basefield-clause-base g c =
    c.basis_coefficient-base.ensures
    ∙ chunk-whole g.F.Represented.width (g.Self.Represented.repr c.args.self.now) (c.is_in_basefield.ensures.0 c.if-is_in_basefield.true)
