use Rattle.std.proofs.Common.{length, arith}
use Rattle.reed_solomon.proofs.Samples.{sample_distinct}
use Rattle.reed_solomon.proofs.sample.Sample.of_present.Goals as goal

pub weights_of-requires-clause-distinct : goal.weights_of-requires-clause-distinct
weights_of-requires-clause-distinct c =
    sample_distinct c.args.k c.args.present.now (length c.args.present.now) _ _ 256 c.present_places-count.ensures.sample (omega (arith, c.requires.fit))
