use Rattle.additive_transforms.proofs.LaneFacts.{lane_sum}
use Rattle.additive_transforms.proofs.planes.AnyPlanesByteMultiples.add.Goals as goal

pub returns : goal.returns
returns g c l below =
    let bytes = g.V.ByteVector.bytes in
    lane_sum (bytes c.args.self.now) (bytes c.args.other.now) (bytes c.sum.result) g.V.ByteVector.lanes l c.sum.ensures
    c.holds_bytes.ensures.count c.holds_bytes-2.ensures.count c.holds_bytes.ensures.fit c.holds_bytes-2.ensures.fit below
