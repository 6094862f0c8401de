use Rattle.packed_lanes.proofs.BlockLemmas.{block_some}
use Rattle.bits_packed.proofs.RoundPairs.{pair_written}
use Rattle.bits_packed.proofs.packed.transpose.interleave_pair.Goals as goal

pub returns : goal.returns
returns g c =
    pair_written c.args.rows.now (λ x. g.U.Underlier.number x.bits) g.U.Underlier.BITS c.args.block c.args.i
    c.index-rows-i.result c.index-rows-other.result c.interleave_blocks-first.result.0 c.interleave_blocks-first.result.1
    (block_some g.U.Underlier.BITS c.args.block c.requires.block) c.requires.square c.requires.inside
    c.index-rows-i.is c.index-rows-other.is
    c.interleave_blocks-first.ensures.first c.interleave_blocks-first.ensures.second
