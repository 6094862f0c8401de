use Rattle.additive_transforms.proofs.ChunkProducts.{bytes_of}
use Rattle.additive_transforms.proofs.VectorPairs.{vectors_back}
use Rattle.additive_transforms.proofs.chunks.low_before.Goals as goal

pub returns : goal.returns
returns g c inverse chosen d s fits high_sum times e few =
    let n = g.V.ByteVector.lanes in
    vectors_back n d e s _ _ _ _ _ inverse few fits (bytes_of n _ c.holds_bytes.ensures.count c.holds_bytes.ensures.fit)
    (bytes_of n _ c.holds_bytes-2.ensures.count c.holds_bytes-2.ensures.fit) (bytes_of n _ c.holds_bytes-4.ensures.count c.holds_bytes-4.ensures.fit)
    chosen (bytes_of n _ c.holds_bytes-3.ensures.count c.holds_bytes-3.ensures.fit) high_sum times c.sum.ensures
