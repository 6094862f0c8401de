use Rattle.additive_transforms.proofs.LaneFacts.{lane_product}
use Rattle.additive_transforms.proofs.planes.AnyPlanesByteMultiples.set_product.Goals as goal

pub returns : goal.returns
returns g c s are l below =
    let bytes = g.V.ByteVector.bytes in
    lane_product c.args.multiples.now s (bytes c.args.factor.now) (bytes c.entry_sums.result) g.V.ByteVector.lanes l are c.entry_sums.ensures
    c.holds_bytes.ensures.count c.holds_bytes.ensures.fit below
