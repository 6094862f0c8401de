use Rattle.c_calls.proofs.Endings.{call_misfit, call_no_elements, refuted}
use Rattle.c_calls.proofs.slices.write_each.Goals as goal

pub returns-then-words-results : goal.returns-then-words-results
returns-then-words-results g c = call_misfit c.if-words-results.true

pub returns-then-not-are_elements : goal.returns-then-not-are_elements
returns-then-not-are_elements g c =
    call_no_elements c.if-words-results.false (λ all. refuted c.if-not-are_elements.true (c.are_elements.ensures.1 all))
