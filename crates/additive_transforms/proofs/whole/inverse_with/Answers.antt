use Rattle.additive_transforms.proofs.ElementStages.{ghash_coefficients}
use Rattle.additive_transforms.proofs.whole.inverse_with.Goals as goal

pub returns-clause-coefficients : goal.returns-clause-coefficients
returns-clause-coefficients g c =
    ghash_coefficients g.K.Kernel.value g.K.Kernel.range_law c.args.z c.stages_of.result c.args.values.now c.every_stage.new.values
    c.stages_of.ensures.stages c.every_stage.ensures.length c.every_stage.ensures.values
