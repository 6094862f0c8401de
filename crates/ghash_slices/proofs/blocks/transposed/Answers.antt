use Rattle.ghash_slices.proofs.BlockLemmas.{four_rotations}
use Rattle.ghash_slices.proofs.blocks.transposed.Goals as goal

pub returns : goal.returns
returns c =
    four_rotations c.args.bytes.now c.interleaved.result c.interleaved-2.result c.interleaved-3.result c.interleaved-4.result
    c.interleaved.ensures c.interleaved-2.ensures c.interleaved-3.ensures c.interleaved-4.ensures
