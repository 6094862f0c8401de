use Rattle.additive_transforms.specs.Rows.{level_of}
use Rattle.additive_transforms.specs.Lanes.{lane_twiddle}
use Rattle.additive_transforms.proofs.LaneProducts.{all_vectors}
use Rattle.additive_transforms.proofs.in_lanes.twiddled.Goals as goal

pub returns : goal.returns
returns g c s are l below =
    all_vectors (level_of g.P.Planes.depth) s (lane_twiddle c.args.vectors l) _ _ _ _ _ (c.set_product.ensures s are l below)
    (c.add.ensures l below) (c.add_lane_products.ensures l below)
