-- The laws of the texts of elements.
use Rattle.calculator.proofs.CoefficientLemmas.{element-read_back, coefficients-in_order}
use Rattle.calculator.proofs.laws.element_is_read_back.Goals as goal

pub returns-clause-element : goal.returns-clause-element
returns-clause-element c = element-read_back

pub returns-clause-coefficients : goal.returns-clause-coefficients
returns-clause-coefficients c = coefficients-in_order
