use Rattle.any_field.proofs.HornerSteps.{IsValueSoFar}
use Rattle.any_field.proofs.extension.BinaryExtension.value.Given as goal

abbrev pub invariant-loop-left : goal.invariant-loop-left
invariant-loop-left l = IsValueSoFar l.fn.self.degree l.fn.self.tail l.fn.root l.fn.degree l.fn.tail l.left l.sum

abbrev pub decreases-loop-left : goal.decreases-loop-left
decreases-loop-left l = l.left
