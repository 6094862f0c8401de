use Rattle.reed_solomon.proofs.derivatives.+derive.Given as goal

abbrev pub decreases-derive : goal.decreases-derive
decreases-derive g l = l.levels
