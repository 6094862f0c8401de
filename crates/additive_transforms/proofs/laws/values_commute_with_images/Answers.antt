-- The value on images is the image of the value.
use Rattle.additive_transforms.proofs.ImageValues.{values_of_images, values_of_lists}
use Rattle.additive_transforms.proofs.laws.values_commute_with_images.Goals as goal

pub returns-clause-coefficients : goal.returns-clause-coefficients
returns-clause-coefficients c = values_of_images

pub returns-clause-lists : goal.returns-clause-lists
returns-clause-lists c = values_of_lists
