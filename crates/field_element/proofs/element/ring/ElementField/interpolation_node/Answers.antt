use Rattle.std.proofs.Common.{◌≤◌, ◌^◌, arith}
use Rattle.std.proofs.Math.Pow.{pow_mono}
use Rattle.field_element.proofs.element.ring.ElementField.interpolation_node.Goals as goal

pub of_index-requires : goal.of_index-requires
of_index-requires g c =
    let more : 2 ^ g.K.FieldKernel.width ≤ 2 ^ g.R.Stored.bits =
    pow_mono {i = g.K.FieldKernel.width} {j = g.R.Stored.bits} g.met.K.FieldKernel.room_law in
    omega (arith, c.requires, more)
