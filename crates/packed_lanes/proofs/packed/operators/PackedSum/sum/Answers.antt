use Rattle.std.proofs.Common.{◌≡◌, ◌∙◌, ap}
use Rattle.field_base.specs.Chunks.{joined}
use Rattle.packed_lanes.specs.lemmas.LaneList.{every_zero, map-every}
use Rattle.packed_lanes.proofs.packed.operators.PackedSum.sum.Goals as goal

pub sum_of_items-requires-clause-starts : goal.sum_of_items-requires-clause-starts
sum_of_items-requires-clause-starts g c =
    let ring = g.F.Represented in
    let number : ring.repr c.ZERO_LANE.result ≡ 0 = ap ring.repr c.ZERO_LANE.ensures ∙ g.met.F.Laned.zero_lane_law in
    ap (joined ring.width) (map-every ring.repr g.row.N 0 c.ZERO_LANE.result _ c.broadcast.ensures number) ∙ every_zero ring.width g.row.N
