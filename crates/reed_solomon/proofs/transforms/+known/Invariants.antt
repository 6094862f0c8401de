use Rattle.reed_solomon.proofs.transforms.+known.Given as goal

abbrev pub decreases-inverse_known : goal.decreases-inverse_known
decreases-inverse_known g l = l.levels
