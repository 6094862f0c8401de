use Rattle.packed_lanes.specs.lemmas.OneLane.{one_lane_interleaved}
use Rattle.packed_lanes.proofs.packing.AnyPackedFieldPow2.interleave.Goals as goal

pub returns : goal.returns
returns g c = one_lane_interleaved c.args.self.now c.args.other c.args._block_len c.requires.block c.requires.room
