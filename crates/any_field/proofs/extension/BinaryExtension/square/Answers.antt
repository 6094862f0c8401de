use Rattle.std.proofs.Common.{◌∙◌}
use Rattle.any_field.proofs.ContextFields.{low-product}
use Rattle.any_field.proofs.extension.BinaryExtension.square.Goals as goal

pub returns : goal.returns
returns c =
    c.square.ensures
    ∙ low-product c.args.self.degree c.args.self.tail c.args.self.ratio c.args.x c.args.x _ _ c.args.self.context c.low_bits.ensures c.low_bits.ensures
