use Rattle.std.proofs.Common.{length}
use Rattle.additive_transforms.proofs.ImageBlocks.{block_of_images, low_image}
use Rattle.additive_transforms.specs.Words.{level_element}
use Rattle.additive_transforms.proofs.images.OfImagesStageArithmetic.butterflies.Goals as goal

pub returns-clause-values : goal.returns-clause-values
returns-clause-values g c =
    let number = g.W.Reads.number in
    block_of_images (level_element number 7) number (λ x. low_image (number x)) c.args.inverse c.args.twiddle
    (length c.args.lo.now) c.args.lo.now c.args.hi.now c.butterflies_by_width.new.lo c.butterflies_by_width.new.hi c.butterflies_by_width.ensures.values
