use Rattle.additive_transforms.proofs.ElementStages.{ghash_coefficients}
use Rattle.additive_transforms.proofs.prepared.Transform.inverse_with.Goals as goal

pub returns-clause-coefficients : goal.returns-clause-coefficients
returns-clause-coefficients g c =
    let self = c.args.self.now in
    ghash_coefficients g.K.Kernel.value g.K.Kernel.range_law self.twiddles.z self.stages c.args.values.now c.every_stage.new.values
    (self.few, c.requires.whole) c.every_stage.ensures.length c.every_stage.ensures.values
