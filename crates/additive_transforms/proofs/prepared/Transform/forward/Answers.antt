use Rattle.additive_transforms.specs.Transform.{HoldPolynomialValues}
use Rattle.additive_transforms.proofs.NumberValues.{of_own_low}
use Rattle.additive_transforms.proofs.prepared.Transform.forward.Goals as goal

pub returns-clause-values : goal.returns-clause-values
returns-clause-values g c =
    of_own_low (HoldPolynomialValues c.args.self.now.twiddles.z) c.args.values.now c.forward_with.new.values c.words_fit.ensures c.words_fit-2.ensures
    c.forward_with.ensures.values
