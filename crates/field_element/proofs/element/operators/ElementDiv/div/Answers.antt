use Rattle.field_base.proofs.BasisFields.{ring_quotient}
use Rattle.field_element.proofs.element.operators.ElementDiv.div.Goals as goal

pub returns : goal.returns
returns g c =
    let k = g.K.FieldKernel in
    ring_quotient k.width k.product k.field_law.ring (g.R.Stored.number c.args.self.repr) (g.R.Stored.number c.args.other.repr)
    (g.R.Stored.number c.invert.result) _ c.args.self.in_range (c.invert.ensures.inverse c.requires) c.mul.ensures
