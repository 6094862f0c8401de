use Rattle.std.proofs.Common.{◌∙◌}
use Rattle.additive_transforms.proofs.Tables.{root_product}
use Rattle.additive_transforms.proofs.multiples.times_root_8.Goals as goal

pub returns : goal.returns
returns c = c.entry_at.ensures ∙ root_product c.args.scalar c.ranges.scalar.fits
