use Rattle.word_carryless.proofs.LaneProducts.{class_products}
use Rattle.word_carryless.proofs.word_vector.SimdU64WordVector.multiply_classes.Goals as goal

pub returns : goal.returns
returns g c left right left_fits right_fits x y =
    class_products _ left right _ _ _ _ _ _ _ _ c.fits-x0.0 c.fits-y0.0 left_fits right_fits x y
