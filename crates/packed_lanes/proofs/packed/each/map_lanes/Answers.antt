use Rattle.std.proofs.Common.{arith}
use Rattle.packed_lanes.proofs.LanePoints.{lane_written, none_written}
use Rattle.packed_lanes.proofs.packed.each.map_lanes.Goals as goal

pub loop-lane-init : goal.loop-lane-init
loop-lane-init g c = none_written (λ k x v. goal.O-post g c.args.operation x v) c.args.lanes.now

pub loop-lane-preserved : goal.loop-lane-preserved
loop-lane-preserved g c =
    lane_written (λ k x v. goal.O-post g c.args.operation x v) c.args.lanes.now c.loop-lane.lanes c.loop-lane.lane c.index-lanes-lane.result
    c.operation.result c.loop-lane.auto.lanes (omega (arith, c.loop-lane-test.true)) c.index-lanes-lane.is c.loop-lane.invariant
    c.operation.ensures

pub returns-clause-each : goal.returns-clause-each
returns-clause-each g c =
    λ k d below. c.loop-lane.invariant.done k d (omega (arith, below, c.loop-lane-test.false)) d
