use Rattle.std.proofs.Common.{map, replicate, ◌∙◌, ap}
use Rattle.packed_lanes.specs.lemmas.LaneList.{map-replicate}
use Rattle.packed_lanes.proofs.packed.operators.PackedDefault.default.Goals as goal

pub returns : goal.returns
returns g c =
    ap (map g.F.Represented.repr) c.broadcast.ensures ∙ map-replicate g.F.Represented.repr g.row.N c.ZERO_LANE.result
    ∙ ap (replicate g.row.N) (ap g.F.Represented.repr c.ZERO_LANE.ensures ∙ g.met.F.Laned.zero_lane_law)
