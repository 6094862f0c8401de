use Rattle.std.specs.Prelude.{slice_index_or}
use Rattle.packed_lanes.proofs.LanePoints.{Written}
use Rattle.packed_lanes.proofs.packed.each.zip_lanes.Given as goal

abbrev pub invariant-loop-lane : goal.invariant-loop-lane
invariant-loop-lane g l =
    Written (λ k x v. (e : _) → goal.O-post g l.operation x (slice_index_or l.fn.right k e) v) l.fn.left l.left l.lane
