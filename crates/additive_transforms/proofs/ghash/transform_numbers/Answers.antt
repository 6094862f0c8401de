use Rattle.additive_transforms.specs.Transform.{AreOnlyCoefficients, HoldPolynomialValues}
use Rattle.ghash_slices.proofs.WordValues.{of_own}
use Rattle.additive_transforms.proofs.ghash.transform_numbers.Goals as goal

pub returns-clause-values : goal.returns-clause-values
returns-clause-values c forward =
    of_own (HoldPolynomialValues c.args.z) c.args.values.now c.transform_ghash.new.words (c.transform_ghash.ensures.values forward)

pub returns-clause-coefficients : goal.returns-clause-coefficients
returns-clause-coefficients c inverse =
    of_own (AreOnlyCoefficients c.args.z) c.args.values.now c.transform_ghash.new.words (c.transform_ghash.ensures.coefficients inverse)
