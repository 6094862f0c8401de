use Rattle.std.proofs.Common.{map, replicate, ◌∙◌, ap}
use Rattle.packed_lanes.specs.lemmas.LaneList.{map-replicate}
use Rattle.packed_lanes.proofs.packed.PackedFromGf2.from.Goals as goal

pub returns : goal.returns
returns g c =
    ap (map g.F.Represented.repr) c.broadcast.ensures
    ∙ map-replicate g.F.Represented.repr g.row.N c.lane_of_bit.result
    ∙ ap (replicate g.row.N) c.lane_of_bit.ensures
