use Rattle.additive_transforms.proofs.VectorPairs.{first_times, second_times}
use Rattle.additive_transforms.proofs.chunks.HalfMultiplesScales.times_two.Goals as goal

pub returns-clause-first : goal.returns-clause-first
returns-clause-first g c s are =
    first_times g.M.Scales.depth s _ _ _ _ _ _ _ _ c.transposed-low.ensures (c.half_products-low_product.ensures s are) c.transposed.ensures

pub returns-clause-second : goal.returns-clause-second
returns-clause-second g c s are =
    second_times g.M.Scales.depth s _ _ _ _ _ _ _ _ c.transposed-low.ensures (c.half_products-low_product.ensures s are) c.transposed.ensures
