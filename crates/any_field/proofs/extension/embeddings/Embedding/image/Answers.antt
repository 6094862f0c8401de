use Rattle.any_field.proofs.HornerSteps.{without-top}
use Rattle.any_field.proofs.extension.embeddings.Embedding.image.Goals as goal

pub returns : goal.returns
returns c =
    without-top c.args.self.target.degree c.args.self.target.tail c.args.self.target.ratio c.args.self.root c.args.self.source.degree c.args.x
    c.low_bits-x.result c.value.result c.args.self.high c.args.self.target.context c.low_bits-x.ensures c.value.ensures c.args.self.high_is
