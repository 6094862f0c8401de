use Rattle.c_calls.proofs.Endings.{call_misfit, call_no_elements, refuted}
use Rattle.c_calls.proofs.values.evaluate.Goals as goal

pub returns-then-points-values : goal.returns-then-points-values
returns-then-points-values g c = call_misfit c.if-points-values.true

pub returns-then-not-are_both_elements : goal.returns-then-not-are_both_elements
returns-then-not-are_both_elements g c =
    call_no_elements c.if-points-values.false (λ both. refuted c.if-not-are_both_elements.true (c.are_both_elements.ensures.1 both))

pub value_at-requires-clause-coefficients : goal.value_at-requires-clause-coefficients
value_at-requires-clause-coefficients g c = (c.are_both_elements.ensures.0 c.if-not-are_both_elements.false).0
