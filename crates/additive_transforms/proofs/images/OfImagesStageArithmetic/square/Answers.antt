use Rattle.std.proofs.Common.{◌∙◌, ap}
use Rattle.additive_transforms.specs.Images.{tower_image}
use Rattle.additive_transforms.proofs.ImageBlocks.{product_image}
use Rattle.additive_transforms.proofs.images.OfImagesStageArithmetic.square.Goals as goal

pub returns : goal.returns
returns g c = ap tower_image c.square.ensures ∙ product_image c.args.x c.args.x
