use Rattle.std.proofs.Common.{◌∙◌}
use Rattle.any_field.proofs.extension.embeddings.Images.of.Goals as goal

pub returns : goal.returns
returns c = c.sum_at_digits.ensures ∙ c.args.self.now.images c.args.x c.requires
