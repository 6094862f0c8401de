use Rattle.std.proofs.Common.{◌<◌, sym, subst, ◌∙◌}
use Rattle.packed_lanes.proofs.BlockLemmas.{block_some}
use Rattle.packed_lanes.specs.Parts.{IsBlockSize}
use Rattle.bits_packed.specs.Lanes.{AreInterleavedLanes}
use Rattle.bits_packed.proofs.Interleavings.{blocks_interleaved, proper_block, whole_interleaved}
use Rattle.bits_packed.proofs.LaneAccess.{row_divides}
use Rattle.bits_packed.proofs.packed.PackedGf2.interleave.Goals as goal

pub returns-then-block_len-BITS-clause-lanes : goal.returns-then-block_len-BITS-clause-lanes
returns-then-block_len-BITS-clause-lanes g c =
    let number = g.U.Underlier.number in
    subst (λ u. AreInterleavedLanes g.U.Underlier.BITS c.args.block_len (number c.args.self.now.bits) (number c.args.other.bits) (number u) (number c.args.other.bits))
    (sym c.value.ensures)
    (whole_interleaved g.U.Underlier.BITS c.args.block_len (number c.args.self.now.bits) (number c.args.other.bits) (c.if-block_len-BITS.true ∙ c.BITS.ensures))

pub returns-clause-lanes : goal.returns-clause-lanes
returns-clause-lanes g c =
    let width = g.U.Underlier.BITS in
    let block = c.args.block_len in
    let proper : block < width = proper_block block width c.BITS.result c.requires.within c.if-block_len-BITS.false c.BITS.ensures in
    let size : IsBlockSize width block = (c.requires.power.0, c.requires.power.1, proper) in
    let divides = row_divides width _ _ _ _ block g.met.U.Underlier.bits_law g.met.U.Word.Word.bits_law g.met.U.Underlier.words_law size in
    blocks_interleaved width divides.0 block _ _ _ _ (block_some width block size) proper divides.1
    c.interleave_blocks.ensures.first c.interleave_blocks.ensures.second
