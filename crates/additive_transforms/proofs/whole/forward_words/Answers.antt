use Rattle.additive_transforms.specs.Transform.{HoldPolynomialValues}
use Rattle.additive_transforms.proofs.NumberValues.{of_low}
use Rattle.additive_transforms.proofs.whole.forward_words.Goals as goal

pub returns-clause-values : goal.returns-clause-values
returns-clause-values g c =
    of_low g.W.Reads.number (HoldPolynomialValues c.args.z) c.args.words.now c.forward_low_words.new.words c.numbers_fit.ensures
    c.numbers_fit-2.ensures c.forward_low_words.ensures.values
