use Rattle.std.proofs.Common.{arith}
use Rattle.std.specs.Prelude.{bit_xor}
use Rattle.field_slices.proofs.BothLists.{both_start, both_step, both_end}
use Rattle.field_slices.proofs.scalars.Scalars.add_each.Goals as goal

pub loop-place-init : goal.loop-place-init
loop-place-init g c = both_start (g.Self.Scalars.number c.args.self) bit_xor c.args.values.now c.args.others.now

pub loop-place-preserved : goal.loop-place-preserved
loop-place-preserved g c =
    let loop = c.loop-place in
    let x = c.index-values-place.result in
    let y = c.index-others-place.result in
    both_step (g.Self.Scalars.number c.args.self) bit_xor c.args.values.now c.args.others.now loop.values loop.place loop.auto.values c.requires loop.invariant
    x y c.add.result (omega arith) c.index-values-place.is c.index-others-place.is c.add.ensures

pub returns : goal.returns
returns g c =
    let loop = c.loop-place in
    both_end (g.Self.Scalars.number c.args.self) bit_xor c.args.values.now c.args.others.now loop.values loop.place loop.auto.values c.requires loop.invariant
    (omega arith)
