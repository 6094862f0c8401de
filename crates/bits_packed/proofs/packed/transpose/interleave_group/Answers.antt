use Rattle.std.proofs.Common.{◌*◌, refl, arith}
use Rattle.packed_lanes.proofs.BlockLemmas.{block_some}
use Rattle.bits_packed.proofs.Rounds.{count_some, group_first, group_passes, groups_fill}
use Rattle.bits_packed.proofs.packed.transpose.interleave_group.Goals as goal

pub interleave_rows-requires-clause-first : goal.interleave_rows-requires-clause-first
interleave_rows-requires-clause-first g c =
    group_first c.args.block (c.args.count * c.args.block) c.args.count (block_some g.U.Underlier.BITS c.args.block c.requires.rounds.0) refl
    c.args.group c.loop-i.i (count_some c.args.count c.requires.rounds.1) (omega arith) (omega arith)

pub interleave_rows-requires-clause-inside : goal.interleave_rows-requires-clause-inside
interleave_rows-requires-clause-inside g c =
    let room = groups_fill g.U.Underlier.BITS (c.args.count * c.args.block) c.args.group c.requires.inside in omega (arith, room)

pub loop-i-preserved : goal.loop-i-preserved
loop-i-preserved g c = λ old so_far. c.interleave_rows.ensures old (c.loop-i.invariant old so_far)

pub returns : goal.returns
returns g c = λ old so_far.
    group_passes c.args.block (c.args.count * c.args.block) c.args.count (block_some g.U.Underlier.BITS c.args.block c.requires.rounds.0) refl
    g.U.Underlier.BITS c.args.group c.loop-i.i old _ (count_some c.args.count c.requires.rounds.1) (omega arith) (c.loop-i.invariant old so_far)
