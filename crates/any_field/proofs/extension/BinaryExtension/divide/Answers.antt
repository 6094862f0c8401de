use Rattle.any_field.proofs.ContextFields.{quotient-found}
use Rattle.any_field.proofs.extension.BinaryExtension.divide.Goals as goal

pub returns-clause-quotient : goal.returns-clause-quotient
returns-clause-quotient c =
    quotient-found c.args.self.degree c.args.self.tail c.args.self.ratio c.args.x c.args.y c.low_bits-x.result c.low_bits-y.result
    c.inverse_of.result c.multiply.result c.args.self.context c.low_bits-x.ensures c.low_bits-y.ensures c.if-y-eq0.false
    c.inverse_of.ensures.inverse c.multiply.ensures
