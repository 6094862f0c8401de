use Rattle.std.proofs.Common.{◌-◌, ℕ, ◌≤◌, ◌<◌}
use Rattle.any_field.proofs.search.kinds.next.Given as goal

-- nothing before this one is found
abbrev pub invariant-loop-candidate : goal.invariant-loop-candidate
invariant-loop-candidate g l = record {
  least : l.fn.tail ≤ l.candidate;
  before : (u : ℕ) → u < l.candidate → l.fn.tail ≤ u → g.K.Kind.is_one l.fn.degree u → ⊥;
}

abbrev pub decreases-loop-candidate : goal.decreases-loop-candidate
decreases-loop-candidate g l = l.last - l.candidate
