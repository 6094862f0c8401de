use Rattle.std.proofs.Common.{arith, rules}
use Rattle.field_base.specs.Bit.{bit_number}
use Rattle.field_base.proofs.Calls.{may_call}
use Rattle.packed_lanes.proofs.WordLists.{nothing_filled}
use Rattle.bits_packed.proofs.LaneLists.{all_filled, lane_filled}
use Rattle.bits_packed.proofs.packed.PackedGf2.from_fn.Goals as goal

pub loop-lane-init : goal.loop-lane-init
loop-lane-init g c = (c.requires, nothing_filled 1 bit_number _ _ _)

pub f-requires : goal.f-requires
f-requires g c = may_call g.U.Underlier.BITS c.loop-lane.lane (search rules) c.loop-lane.invariant.0

pub loop-lane-preserved : goal.loop-lane-preserved
loop-lane-preserved g c = lane_filled g.U.Underlier.BITS c.loop-lane.lane (search rules) c.loop-lane.invariant c.f.ensures c.set.ensures

pub returns : goal.returns
returns g c = all_filled g.U.Underlier.BITS (omega arith) c.loop-lane.invariant.1
