use Rattle.std.proofs.Common.{◌∙◌}
use Rattle.any_field.proofs.extension.multiples.Multiples.of.Goals as goal

pub returns : goal.returns
returns c = c.sum_at_digits.ensures ∙ c.args.self.now.products c.args.x c.requires
