use Rattle.any_field.proofs.PowerRelations.{IsReduced}
use Rattle.any_field.proofs.extension.minimal.reduced.Given as goal

-- the rest is the word and the sum of values
abbrev pub invariant-loop-rest : goal.invariant-loop-rest
invariant-loop-rest l = IsReduced l.values l.polynomials l.fn.word l.rest l.sum

abbrev pub decreases-loop-rest : goal.decreases-loop-rest
decreases-loop-rest l = l.rest
