use Rattle.additive_transforms.proofs.ElementStages.{the_coefficients}
use Rattle.additive_transforms.proofs.elements.whole.inverse_by.Goals as goal

pub returns-clause-coefficients : goal.returns-clause-coefficients
returns-clause-coefficients g c =
    let laws = g.met.K.StageArithmetic in
    the_coefficients laws.wide_law laws.ring_law laws.vector_law g.K.StageArithmetic.value laws.range_law (g.K.StageArithmetic.number c.args.z)
    c.args.values.now c.transform.new.values c.requires c.transform.ensures.length c.transform.ensures.values
