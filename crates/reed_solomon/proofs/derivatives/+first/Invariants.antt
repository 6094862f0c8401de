use Rattle.reed_solomon.proofs.derivatives.+first.Given as goal

abbrev pub decreases-derive_first : goal.decreases-derive_first
decreases-derive_first g l = l.levels
