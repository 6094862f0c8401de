use Rattle.std.proofs.Common.{◌≡◌, ◌∙◌, ap}
use Rattle.field_base.specs.Chunks.{joined}
use Rattle.packed_lanes.specs.lemmas.LaneList.{map-every}
use Rattle.packed_lanes.proofs.packed.operators.PackedProduct.product.Goals as goal

pub product_of_items-requires-clause-starts : goal.product_of_items-requires-clause-starts
product_of_items-requires-clause-starts g c =
    let ring = g.F.Represented in
    let number : ring.repr c.ONE_LANE.result ≡ ring.unit = ap ring.repr c.ONE_LANE.ensures ∙ g.met.F.Laned.one_lane_law in
    ap (joined ring.width) (map-every ring.repr g.row.N ring.unit c.ONE_LANE.result _ c.broadcast.ensures number)
