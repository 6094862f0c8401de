use Rattle.std.proofs.Common.{◌*◌, ◌∙◌, ap}
use Rattle.std.specs.Prelude.{bit_xor}
use Rattle.std.specs.Int.{bit_at}
use Rattle.additive_transforms.specs.Rows.{byte_of_lane}
use Rattle.additive_transforms.proofs.lane_planes.U8x32LanePlanesByteMultiples.add_product_where.Goals as goal

pub returns : goal.returns
returns c v byte are l below =
    c.add.ensures l below
    ∙ ap (bit_xor (byte_of_lane c.args.self.now l))
    (c.chosen_lanes.ensures l below ∙ ap (λ x. bit_at l c.args.bit * x) (c.set_product.ensures v are l below))
