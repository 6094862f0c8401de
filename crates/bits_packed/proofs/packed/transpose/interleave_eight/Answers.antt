use Rattle.std.proofs.Common.{◌*◌, map}
use Rattle.packed_lanes.proofs.BlockLemmas.{block_some}
use Rattle.bits_packed.proofs.EightRows.{eight_done}
use Rattle.bits_packed.proofs.LaneAccess.{row_divides}
use Rattle.bits_packed.proofs.Rounds.{eightfold_fits}
use Rattle.bits_packed.proofs.packed.transpose.interleave_eight.Goals as goal

pub returns : goal.returns
returns g c = λ old so_far.
    let divides =
    row_divides g.U.Underlier.BITS _ _ _ _ (4 * c.args.block) g.met.U.Underlier.bits_law g.met.U.Word.Word.bits_law g.met.U.Underlier.words_law
    c.lengths_of_eight.ensures.fourfold in
    eight_done g.U.Underlier.BITS divides.0 c.args.block c.args.i old (map (λ x. g.U.Underlier.number x.bits) c.args.rows.now)
    (block_some g.U.Underlier.BITS c.args.block c.requires.block)
    (eightfold_fits g.U.Underlier.BITS divides.0 c.args.block divides.1) c.requires.first c.requires.inside
    c.row_of_eight-one.ensures c.row_of_eight-two.ensures c.row_of_eight-three.ensures
    c.row_of_eight-four.ensures c.row_of_eight-five.ensures c.row_of_eight-six.ensures
    c.interleave_pair.ensures c.interleave_pair-2.ensures c.interleave_pair-3.ensures c.interleave_pair-4.ensures
    c.interleave_pair-5.ensures c.interleave_pair-6.ensures c.interleave_pair-7.ensures c.interleave_pair-8.ensures
    c.interleave_pair-9.ensures c.interleave_pair-10.ensures c.interleave_pair-11.ensures c.interleave_pair-12.ensures so_far
