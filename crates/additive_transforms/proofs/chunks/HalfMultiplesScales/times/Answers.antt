use Rattle.additive_transforms.specs.Halves.{are_of_halves}
use Rattle.additive_transforms.proofs.ChunkProducts.{bytes_of, bytes_summed, pairs_times}
use Rattle.additive_transforms.proofs.chunks.HalfMultiplesScales.times.Goals as goal

pub returns : goal.returns
unfolding are_of_halves
returns g c s are =
    let n = g.V.ByteVector.lanes in
    let bytes = g.V.ByteVector.bytes in
    let old = bytes_of n (bytes c.args.bytes) c.holds_bytes.ensures.count c.holds_bytes.ensures.fit in
    let exchanged = bytes_of n (bytes c.exchanged-exchanged.result) c.holds_bytes-2.ensures.count c.holds_bytes-2.ensures.fit in
    let both = bytes_of n (bytes c.times-both.result) c.holds_bytes-3.ensures.count c.holds_bytes-3.ensures.fit in
    let merged = bytes_of n (bytes c.merged-merged.result) c.holds_bytes-4.ensures.count c.holds_bytes-4.ensures.fit in
    pairs_times g.M.Scales.depth s are.0 are.1 (bytes c.args.bytes) (bytes c.exchanged-exchanged.result) (bytes c.sum.result) (bytes c.times-both.result)
    (bytes c.times.result) (bytes c.times-2.result) (bytes c.merged-merged.result) (bytes c.sum-2.result) are.2 are.3 are.4 old exchanged both merged
    c.exchanged-exchanged.ensures (bytes_summed n _ _ _ old exchanged c.sum.ensures) (c.times-both.ensures are.1 are.5) (c.times.ensures _ are.6)
    (c.times-2.ensures _ are.7) c.merged-merged.ensures (bytes_summed n _ _ _ merged both c.sum-2.ensures)
