use Rattle.std.proofs.Common.{ℕ, ◌%◌, ◌^◌, ◌<◌}
use Rattle.std.specs.Prelude.{slice_index}
use Rattle.any_field.proofs.search.kinds.drawn.Given as goal

-- no draw before this one is found
abbrev pub invariant-loop-place : goal.invariant-loop-place
invariant-loop-place g l = (j : ℕ) → j < l.place → g.K.Kind.is_one l.fn.degree (slice_index l.draws j % 2 ^ l.fn.degree) → ⊥
