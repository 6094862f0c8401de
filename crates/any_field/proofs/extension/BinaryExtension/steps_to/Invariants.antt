use Rattle.std.proofs.Common.{◌-◌}
use Rattle.any_field.proofs.extension.BinaryExtension.steps_to.Given as goal

abbrev pub decreases-loop-steps : goal.decreases-loop-steps
decreases-loop-steps l = l.fn.most - l.steps
