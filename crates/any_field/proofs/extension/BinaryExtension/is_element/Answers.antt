use Rattle.any_field.proofs.ContextFields.{element-exactly}
use Rattle.any_field.proofs.extension.BinaryExtension.is_element.Goals as goal

pub returns : goal.returns
returns c = element-exactly c.args.self.degree c.args.word c.low_bits.result c.low_bits.ensures
