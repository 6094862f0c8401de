use Rattle.additive_transforms.proofs.ImageBlocks.{sum_image}
use Rattle.additive_transforms.proofs.images.OfImagesStageArithmetic.sum.Goals as goal

pub returns : goal.returns
returns g c = sum_image c.args.x c.args.y
