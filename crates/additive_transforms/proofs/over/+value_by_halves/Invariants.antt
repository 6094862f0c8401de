use Rattle.additive_transforms.proofs.over.+value_by_halves.Given as goal

abbrev pub decreases-value_by_halves : goal.decreases-value_by_halves
decreases-value_by_halves g l = l.levels
