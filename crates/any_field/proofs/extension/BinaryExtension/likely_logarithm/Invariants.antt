use Rattle.any_field.proofs.extension.BinaryExtension.likely_logarithm.Given as goal

abbrev pub decreases-loop-rest : goal.decreases-loop-rest
decreases-loop-rest l = l.rest
