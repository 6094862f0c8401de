use Rattle.any_field.proofs.RabinSteps.{IsTested}
use Rattle.any_field.proofs.irreducible.is_irreducible.Given as goal

abbrev pub invariant-loop-i : goal.invariant-loop-i
invariant-loop-i l = IsTested l.fn.degree l.fn.tail l.i l.moved
