use Rattle.additive_transforms.specs.Transform.{AreOnlyCoefficients}
use Rattle.additive_transforms.proofs.NumberValues.{of_own_low}
use Rattle.additive_transforms.proofs.ghash.inverse.Goals as goal

pub returns-clause-coefficients : goal.returns-clause-coefficients
returns-clause-coefficients c =
    of_own_low (AreOnlyCoefficients c.args.z) c.args.values.now c.inverse_with.new.values c.words_fit.ensures c.words_fit-2.ensures
    c.inverse_with.ensures.coefficients
