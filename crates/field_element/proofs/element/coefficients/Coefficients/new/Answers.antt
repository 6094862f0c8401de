use Rattle.std.proofs.Common.{arith}
use Rattle.field_element.specs.lemmas.Coefficients.{chunks_stored}
use Rattle.field_element.proofs.element.coefficients.Coefficients.new.Goals as goal

pub returns : goal.returns
returns c = chunks_stored (record { coefficients = c.args.coefficients; three = omega arith })
