use Rattle.any_field.proofs.HornerSteps.{embedded}
use Rattle.any_field.proofs.extension.embeddings.Embedding.is_embedding.Goals as goal

pub returns : goal.returns
returns c =
    embedded c.args.self.target.degree c.args.self.target.tail c.args.self.target.ratio c.args.self.source.degree c.args.self.source.tail
    c.args.self.source.ratio c.args.self.root c.args.self.target.context c.args.self.source.context c.args.self.source.irreducible
    c.args.self.is_root
