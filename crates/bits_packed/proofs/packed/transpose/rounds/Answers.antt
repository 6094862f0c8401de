use Rattle.std.proofs.Common.{◌*◌, refl, arith}
use Rattle.packed_lanes.proofs.BlockLemmas.{block_some}
use Rattle.bits_packed.proofs.LaneAccess.{row_bits}
use Rattle.bits_packed.proofs.Rounds.{blocks_divide, count_some, groups_end, pass_none}
use Rattle.bits_packed.proofs.packed.transpose.rounds.Goals as goal

pub loop-group-init : goal.loop-group-init
loop-group-init g c = λ old so_far.
    pass_none c.args.block (c.args.count * c.args.block) c.args.count (block_some g.U.Underlier.BITS c.args.block c.requires.0) refl
    g.U.Underlier.BITS old _ so_far

pub loop-group-preserved : goal.loop-group-preserved
loop-group-preserved g c = λ old so_far. c.interleave_group.ensures old (c.loop-group.invariant old so_far)

pub returns : goal.returns
returns g c = λ old so_far.
    let power = row_bits g.U.Underlier.BITS _ _ _ _ g.met.U.Underlier.bits_law g.met.U.Word.Word.bits_law g.met.U.Underlier.words_law in
    let divides = blocks_divide g.U.Underlier.BITS _ c.args.block c.args.count _ power c.requires in
    groups_end c.args.block c.args.count g.U.Underlier.BITS divides.0 old _ (block_some g.U.Underlier.BITS c.args.block c.requires.0)
    (count_some c.args.count c.requires.1) divides.1 c.BITS.ensures (omega arith) (c.loop-group.invariant old so_far)
