use Rattle.std.proofs.Common.{ℕ}
use Rattle.std.specs.Prelude.{bit_xor}
use Rattle.field_element.specs.Element.{repr_of}
use Rattle.field_element.proofs.ChangedPlaces.{changed-zip}
use Rattle.field_element.proofs.element.lanes.add_scaled_elements.Goals as goal

pub returns : goal.returns
returns g c =
    changed-zip repr_of c.args.sums.now c.change_elements.new.elements c.change_elements.ensures.long repr_of c.args.elements.now
    (λ (x y : ℕ). bit_xor x (g.K.FieldKernel.product (repr_of c.args.scalar) y)) c.requires c.change_elements.ensures.results
