use Rattle.field_base.proofs.CarrylessProduct.{carryless_is_product}
use Rattle.field_base.proofs.laws.carryless_is_product.Goals as goal

pub returns : goal.returns
returns c = carryless_is_product
