use Rattle.additive_transforms.proofs.ChunkProducts.{digits_number}
use Rattle.additive_transforms.proofs.chunks.vector_of_one.Goals as goal

pub returns : goal.returns
returns c = digits_number c.args.x c.bytes_of_128-bytes.result c.holds_bytes.ensures.count c.ranges.x.fits c.bytes_of_128-bytes.ensures
