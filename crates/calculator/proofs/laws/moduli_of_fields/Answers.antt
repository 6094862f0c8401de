-- The moduli that have a field.
use Rattle.calculator.proofs.ModulusLemmas.{fields_of_irreducibles}
use Rattle.calculator.proofs.laws.moduli_of_fields.Goals as goal

pub returns : goal.returns
returns c = fields_of_irreducibles
