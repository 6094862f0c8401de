use Rattle.field_base.specs.Powers.{repeated_square}
use Rattle.packed_lanes.proofs.LanePoints.{images_agree}
use Rattle.packed_lanes.proofs.packed.Packed.frobenius.Goals as goal

pub returns : goal.returns
returns g c =
    let ring = g.F.Represented in
    cc (
      images_agree ring.repr (repeated_square ring.unit ring.product c.args.count) c.as_mut_slice.result.now c.map_lanes.new.lanes
          c.map_lanes.ensures.long (λ k d below. c.map_lanes.ensures.each k d below),
      c.as_mut_slice.ensures.value,
    )
