use Rattle.additive_transforms.specs.Halves.{are_of_halves}
use Rattle.additive_transforms.proofs.ChunkProducts.{bytes_of}
use Rattle.additive_transforms.proofs.VectorPairs.{half_products}
use Rattle.additive_transforms.proofs.chunks.half_products.Goals as goal

pub returns : goal.returns
unfolding are_of_halves
returns g c s are =
    let n = g.V.ByteVector.lanes in
    half_products n g.M.Scales.depth s are.0 are.1 _ _ _ _ _ _ _ _ are.2 are.3 are.4
    (bytes_of n _ c.holds_bytes.ensures.count c.holds_bytes.ensures.fit) (bytes_of n _ c.holds_bytes-2.ensures.count c.holds_bytes-2.ensures.fit)
    (bytes_of n _ c.holds_bytes-3.ensures.count c.holds_bytes-3.ensures.fit) (bytes_of n _ c.holds_bytes-4.ensures.count c.holds_bytes-4.ensures.fit)
    (bytes_of n _ c.holds_bytes-5.ensures.count c.holds_bytes-5.ensures.fit) c.sum.ensures (c.times-both.ensures are.1 are.5)
    (c.times-low_product.ensures _ are.6) (c.times-high_product.ensures _ are.7) c.sum-2.ensures c.sum-3.ensures
