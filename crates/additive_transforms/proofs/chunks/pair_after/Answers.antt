use Rattle.additive_transforms.proofs.ChunkProducts.{bytes_of}
use Rattle.additive_transforms.proofs.VectorPairs.{vectors_on}
use Rattle.additive_transforms.proofs.chunks.pair_after.Goals as goal

pub returns : goal.returns
returns g c inverse chosen d s fits times e few =
    let n = g.V.ByteVector.lanes in
    vectors_on n d e s _ _ _ _ _ inverse few fits (bytes_of n _ c.holds_bytes.ensures.count c.holds_bytes.ensures.fit)
    (bytes_of n _ c.holds_bytes-2.ensures.count c.holds_bytes-2.ensures.fit) (bytes_of n _ c.holds_bytes-3.ensures.count c.holds_bytes-3.ensures.fit)
    chosen (bytes_of n _ c.holds_bytes-4.ensures.count c.holds_bytes-4.ensures.fit) times c.sum-low.ensures c.sum.ensures
