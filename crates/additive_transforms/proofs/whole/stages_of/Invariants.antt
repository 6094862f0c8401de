use Rattle.std.proofs.Common.{◌≢◌, ℕ, ◌^◌, ◌<◌}
use Rattle.additive_transforms.proofs.whole.stages_of.Given as goal

-- none of the numbers before is that of the stages
abbrev pub invariant-loop-stages : goal.invariant-loop-stages
invariant-loop-stages l = (m : ℕ) → m < l.stages → l.count ≢ 2 ^ m
