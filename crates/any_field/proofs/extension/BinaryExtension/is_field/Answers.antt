use Rattle.any_field.proofs.ContextFields.{field-at, modulus-at}
use Rattle.any_field.proofs.extension.BinaryExtension.is_field.Goals as goal

pub returns-clause-field : goal.returns-clause-field
returns-clause-field c = field-at c.args.self.degree c.args.self.tail c.args.self.ratio c.args.self.context c.args.self.irreducible

pub returns-clause-modulus : goal.returns-clause-modulus
returns-clause-modulus c = modulus-at c.args.self.degree c.args.self.tail c.args.self.ratio c.args.self.context c.args.self.irreducible
