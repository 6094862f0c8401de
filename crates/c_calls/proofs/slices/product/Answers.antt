use Rattle.c_calls.proofs.Endings.{call_no_elements, refuted}
use Rattle.c_calls.proofs.slices.product.Goals as goal

pub returns-then-not-are_elements : goal.returns-then-not-are_elements
returns-then-not-are_elements g c = call_no_elements tt (λ all. refuted c.if-not-are_elements.true (c.are_elements.ensures.1 all))
