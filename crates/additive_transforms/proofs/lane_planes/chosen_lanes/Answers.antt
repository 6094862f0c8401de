use Rattle.additive_transforms.proofs.LaneProducts.{masked_lane}
use Rattle.additive_transforms.proofs.lane_planes.chosen_lanes.Goals as goal

pub returns : goal.returns
returns c l lane = masked_lane c.args.bytes c.entries_from.result c.args.bit l c.fits-bytes.0 c.entries_from.ensures c.requires lane
