use Rattle.ghash_slices.specs.LowStages.{HoldSums}
use Rattle.additive_transforms.proofs.NumberValues.{to_low}
use Rattle.additive_transforms.proofs.kernel.run_low_words.Goals as goal

pub returns-clause-sums : goal.returns-clause-sums
returns-clause-sums g c =
    to_low g.W.Reads.number (HoldSums c.args.shifts.now c.args.basis.now c.args.first_run) c.args.words.now c.run_low_stages.new.values
    c.numbers_fit.ensures c.numbers_fit-2.ensures c.run_low_stages.ensures.sums
