use Rattle.any_field.proofs.ContextFields.{root-found}
use Rattle.any_field.proofs.extension.BinaryExtension.square_root.Goals as goal

pub returns : goal.returns
returns c =
    root-found c.args.self.degree c.args.self.tail c.args.self.ratio c.args.x c.low_bits-x.result c.square_times.result c.args.self.context
    c.args.self.irreducible c.low_bits-x.ensures c.square_times.ensures
