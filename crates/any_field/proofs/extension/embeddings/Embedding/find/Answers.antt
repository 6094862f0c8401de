use Rattle.any_field.proofs.FoundOptions.{none-of}
use Rattle.any_field.proofs.extension.embeddings.Embedding.find.Goals as goal

pub returns-clause-none : goal.returns-clause-none
returns-clause-none c = none-of _ c.first.result c.first.ensures.some
