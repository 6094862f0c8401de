use Rattle.std.proofs.Common.{◌≡◌, arith}
use Rattle.packed_lanes.specs.Lanes.{interleaved_first, interleaved_second}
use Rattle.packed_lanes.proofs.LanePoints.{lanes_done}
use Rattle.packed_lanes.proofs.packed.interleaved.interleave_lanes.Goals as goal

pub loop-lane-preserved : goal.loop-lane-preserved
loop-lane-preserved g c =
    let lane = c.loop-lane.lane in
    let left = c.args.left.now in
    let right = c.args.right.now in
    let block = c.args.block_len in (
      lanes_done (λ k v. (e : _) → v ≡ interleaved_first block left right e k) c.loop-lane.first lane c.first_lane.result
          (omega (arith, c.loop-lane-test.true, c.loop-lane.auto.first, c.requires.first)) c.loop-lane.invariant.0 c.first_lane.ensures,
      lanes_done (λ k v. (e : _) → v ≡ interleaved_second block left right e k) c.loop-lane.second lane c.second_lane.result
          (omega (arith, c.loop-lane-test.true, c.loop-lane.auto.second, c.requires.second)) c.loop-lane.invariant.1 c.second_lane.ensures,
    )

pub returns : goal.returns
returns g c =
    record {
      first_lanes = λ k d below. c.loop-lane.invariant.0 k d (omega (arith, below, c.loop-lane-test.false)) d;
      second_lanes = λ k d below. c.loop-lane.invariant.1 k d (omega (arith, below, c.loop-lane-test.false)) d;
    }
