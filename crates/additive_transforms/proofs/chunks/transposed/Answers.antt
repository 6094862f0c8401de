use Rattle.std.proofs.Common.{◌∙◌}
use Rattle.additive_transforms.proofs.chunks.transposed.Goals as goal

pub returns : goal.returns
returns g c =
    record {
      first_low = λ i. c.merged-low.ensures.low i;
      second_low = λ i. c.merged-low.ensures.high i ∙ c.exchanged.ensures.high i;
      first_high = λ i. c.merged.ensures.low i ∙ c.exchanged-2.ensures.low i;
      second_high = λ i. c.merged.ensures.high i;
    }
