use Rattle.any_field.proofs.RatioSteps.{IsPartialRatio}
use Rattle.any_field.proofs.reduction.ratio_of.Given as goal

abbrev pub invariant-loop : goal.invariant-loop
invariant-loop l = IsPartialRatio l.fn.width l.fn.tail l.counter l.ratio l.rest
