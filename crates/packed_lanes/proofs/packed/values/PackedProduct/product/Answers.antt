use Rattle.packed_lanes.specs.lemmas.LaneList.{map-every}
use Rattle.packed_lanes.proofs.packed.values.PackedProduct.product.Goals as goal

pub returns : goal.returns
returns g c =
    let items = c.product_of_items in
    let lanes = map-every g.F.Represented.repr g.row.N _ items.result _ c.broadcast.ensures items.ensures.2 in
    record { ran = (items.ensures.0, (λ complete. items.ensures.1), lanes) }
