use Rattle.additive_transforms.proofs.ElementStages.{fits_stages}
use Rattle.additive_transforms.proofs.elements.whole.transform.Goals as goal

pub stages_of-requires : goal.stages_of-requires
stages_of-requires g c = (c.requires.0, c.requires.1)

pub run_halves-requires-clause-few : goal.run_halves-requires-clause-few
run_halves-requires-clause-few g c = fits_stages g.K.StageArithmetic.width _ _ c.requires c.stages_of.ensures.only
