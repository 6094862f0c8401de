use Rattle.additive_transforms.proofs.TwiddleWidths.{twiddles_lie_in_subfield}
use Rattle.additive_transforms.proofs.laws.twiddles_lie_in_subfield.Goals as goal

pub returns : goal.returns
returns c = twiddles_lie_in_subfield
