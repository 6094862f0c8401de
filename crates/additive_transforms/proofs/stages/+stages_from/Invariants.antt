use Rattle.std.proofs.Common.{◌-◌}
use Rattle.additive_transforms.proofs.stages.+stages_from.Given as goal

abbrev pub decreases-stages_from : goal.decreases-stages_from
decreases-stages_from g l = l.stages - l.stage
