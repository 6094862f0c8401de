use Rattle.additive_transforms.proofs.ChunkProducts.{bytes_of, bytes_times}
use Rattle.additive_transforms.proofs.chunks.ByteMultiplesScales.times.Goals as goal

pub returns : goal.returns
returns g c s are =
    let bytes = g.V.ByteVector.bytes c.args.bytes in
    bytes_times g.V.ByteVector.lanes c.args.self.now s bytes (g.V.ByteVector.bytes c.entry_sums.result) are
    (bytes_of g.V.ByteVector.lanes bytes c.holds_bytes.ensures.count c.holds_bytes.ensures.fit) c.entry_sums.ensures
