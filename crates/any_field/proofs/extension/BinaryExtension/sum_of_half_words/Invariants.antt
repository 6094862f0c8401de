use Rattle.any_field.proofs.DotSteps.{IsDotSoFar}
use Rattle.any_field.proofs.extension.BinaryExtension.sum_of_half_words.Given as goal

-- the products before this place are added
abbrev pub invariant-loop-place : goal.invariant-loop-place
invariant-loop-place g l = IsDotSoFar g.W.Reads.number l.fn.self.degree l.fn.self.tail l.left l.right l.place (l.sum)
