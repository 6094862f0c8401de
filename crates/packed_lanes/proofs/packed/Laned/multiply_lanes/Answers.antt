use Rattle.std.proofs.Common.{sym}
use Rattle.packed_lanes.proofs.LanePoints.{lanes_agree}
use Rattle.packed_lanes.proofs.packed.Laned.multiply_lanes.Goals as goal

pub returns : goal.returns
returns g c =
    let ring = g.Self.Represented in
    lanes_agree ring.repr ring.product c.args.left.now c.args.right.now c.zip_lanes.new.left c.zip_lanes.ensures.long (sym c.requires)
    (λ k d below. c.zip_lanes.ensures.each k d below)
