use Rattle.packed_lanes.proofs.LanePoints.{Written}
use Rattle.packed_lanes.proofs.packed.each.map_lanes.Given as goal

abbrev pub invariant-loop-lane : goal.invariant-loop-lane
invariant-loop-lane g l = Written (λ k x v. goal.O-post g l.operation x v) l.fn.lanes l.lanes l.lane
