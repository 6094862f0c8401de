use Rattle.std.proofs.Common.{◌∙◌, subst, arith}
use Rattle.std.specs.Prelude.{slice_index_or}
use Rattle.packed_lanes.proofs.LanePoints.{lane_written, none_written, same_entry}
use Rattle.packed_lanes.proofs.packed.each.zip_lanes.Goals as goal

pub loop-lane-init : goal.loop-lane-init
loop-lane-init g c =
    none_written (λ k x v. (e : _) → goal.O-post g c.args.operation x (slice_index_or c.args.right.now k e) v) c.args.left.now

pub loop-lane-preserved : goal.loop-lane-preserved
loop-lane-preserved g c =
    let lane = c.loop-lane.lane in
    let right = c.args.right.now in
    let x = c.index-left-lane.result in
    let r = c.operation.result in
    lane_written (λ k x v. (e : _) → goal.O-post g c.args.operation x (slice_index_or right k e) v) c.args.left.now c.loop-lane.left lane x r
    c.loop-lane.auto.left (omega (arith, c.loop-lane-test.true, c.requires.long)) c.index-left-lane.is c.loop-lane.invariant
    (λ e.
    subst (λ v. goal.O-post g c.args.operation x v r)
    (c.index-right-lane.is ∙ same_entry right lane c.index-right-lane.result e c.loop-lane-test.true) c.operation.ensures)

pub returns-clause-each : goal.returns-clause-each
returns-clause-each g c =
    λ k d below. c.loop-lane.invariant.done k d (omega (arith, below, c.requires.long, c.loop-lane-test.false)) d d
