use Rattle.std.proofs.Common.{◌∙◌}
use Rattle.any_field.specs.Contexts.{with_top}
use Rattle.any_field.proofs.HornerSteps.{at-low}
use Rattle.any_field.proofs.extension.embeddings.Embedding.root.Goals as goal

pub returns-clause-root : goal.returns-clause-root
returns-clause-root c =
    let s = c.args.self in
    at-low s.target.degree s.target.tail s.target.ratio s.root c.low_bits.result s.target.context c.low_bits.ensures (with_top s.source.degree s.source.tail)
    ∙ s.is_root
