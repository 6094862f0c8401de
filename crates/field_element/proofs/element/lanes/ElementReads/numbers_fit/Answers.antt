use Rattle.std.proofs.Common.{◌^◌, ◌≤◌, arith}
use Rattle.std.proofs.Math.Pow.{pow_mono}
use Rattle.field_base.proofs.WordValues.{values_fit}
use Rattle.field_element.specs.Element.{repr_of}
use Rattle.field_element.proofs.element.lanes.ElementReads.numbers_fit.Goals as goal

pub returns : goal.returns
returns g c =
    let width = g.K.FieldKernel.width in
    let bits = g.R.Stored.bits in
    let room : 2 ^ width ≤ 2 ^ bits = pow_mono {i = width} {j = bits} g.met.K.FieldKernel.room_law in
    values_fit bits repr_of (λ x. let fits = x.in_range in omega (arith, fits, room)) c.args.places.now
