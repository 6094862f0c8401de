use Rattle.reed_solomon.proofs.transforms.+first.Given as goal

abbrev pub decreases-forward_first : goal.decreases-forward_first
decreases-forward_first g l = l.levels
