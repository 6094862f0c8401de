use Rattle.field_element.specs.Element.{repr_of}
use Rattle.field_element.proofs.ChangedPlaces.{changed-map}
use Rattle.field_element.proofs.element.lanes.multiply_elements_by.Goals as goal

pub returns : goal.returns
returns g c =
    changed-map repr_of c.args.elements.now c.change_elements.new.elements c.change_elements.ensures.long
    (g.K.FieldKernel.product (repr_of c.args.scalar)) c.change_elements.ensures.results
