use Rattle.std.proofs.Common.{◌≢◌, ℕ, ◌<◌, ◌^◌}
use Rattle.c_calls.proofs.transforms.has_stages.Given as goal

-- so many values are no lower power of two
abbrev pub invariant-loop-stages : goal.invariant-loop-stages
invariant-loop-stages l = (m : ℕ) → m < l.stages → l.count ≢ 2 ^ m
