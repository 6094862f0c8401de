use Rattle.additive_transforms.proofs.LevelProducts.{multiple_in_level, whole_product}
use Rattle.additive_transforms.proofs.products.sum_of_multiple.Goals as goal

pub returns : goal.returns
returns g c s is =
    multiple_in_level g.L.Level.LEVEL s _ _ _ _ c.xor.ensures
    (whole_product g.L.Level.LEVEL s (g.R.Stored.number c.args.scalar) (g.R.Stored.number c.args.y) _ c.multiply.ensures is)
