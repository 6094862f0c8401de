use Rattle.std.proofs.Common.{length}
use Rattle.additive_transforms.specs.Transform.{AreOnlyCoefficients}
use Rattle.additive_transforms.proofs.Counts.{transform_room}
use Rattle.additive_transforms.proofs.NumberValues.{of_low}
use Rattle.additive_transforms.proofs.whole.inverse_words.Goals as goal

pub inverse_with-requires : goal.inverse_with-requires
inverse_with-requires g c = transform_room (length c.args.words.now) c.new.result.products c.new.ensures c.requires

pub returns-clause-coefficients : goal.returns-clause-coefficients
returns-clause-coefficients g c =
    of_low g.W.Reads.number (AreOnlyCoefficients c.args.z) c.args.words.now c.inverse_with.new.values c.numbers_fit.ensures
    c.numbers_fit-2.ensures c.inverse_with.ensures.coefficients
