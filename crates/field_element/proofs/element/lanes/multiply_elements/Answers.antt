use Rattle.std.proofs.Common.{map, sym, ◌∙◌}
use Rattle.field_element.specs.Element.{repr_of}
use Rattle.field_element.proofs.ChangedPlaces.{changed-zip}
use Rattle.field_element.proofs.PlaceProducts.{by_lanes}
use Rattle.field_element.proofs.element.lanes.multiply_elements.Goals as goal

pub returns : goal.returns
returns g c =
    let left = c.args.left.now in
    let right = c.args.right.now in
    let times = g.K.FieldKernel.product in
    changed-zip repr_of left c.change_elements.new.elements c.change_elements.ensures.long repr_of right times (sym c.requires)
    c.change_elements.ensures.results
    ∙ by_lanes times (map repr_of left) (map repr_of right)
