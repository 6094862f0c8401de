use Rattle.std.proofs.Common.{◌+◌, ◌*◌}
use Rattle.additive_transforms.proofs.elements.halves.+halves.Given as goal

-- the calls for both halves are below that for the whole, and above those for a half
abbrev pub decreases-run_halves : goal.decreases-run_halves
decreases-run_halves g l = 2 * l.stages

abbrev pub decreases-both_halves : goal.decreases-both_halves
decreases-both_halves g l = 2 * l.highest + 1
