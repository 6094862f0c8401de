use Rattle.c_calls.proofs.transforms.fits_level.Goals as goal

pub stages_of-requires : goal.stages_of-requires
stages_of-requires g c = c.has_stages.ensures.0 c.if-not-has_stages.false
