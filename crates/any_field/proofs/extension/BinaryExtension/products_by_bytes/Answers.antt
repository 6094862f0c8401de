use Rattle.std.proofs.Common.{◌-◌, ◌*◌, ◌^◌, ◌<◌, ap₂, ◌∙◌, arith}
use native.Mathlib.Nat.{mod-eq_of_lt}
use Rattle.any_field.specs.Contexts.{field_product}
use Rattle.any_field.proofs.AlignedBytes.{lane-product, low_bytes-product, tail-below}
use Rattle.any_field.proofs.extension.BinaryExtension.products_by_bytes.Goals as goal

pub overflow_cast-tail-2 : goal.overflow_cast-tail-2
overflow_cast-tail-2 g c =
    record { fits = omega (arith, tail-below c.args.self.degree c.args.self.tail c.requires.narrow c.args.self.context.tail_below) }

pub returns : goal.returns
returns g c i within d =
    let s = c.args.self in
    let fits = tail-below s.degree s.tail c.requires.narrow s.context.tail_below in
    let below : s.tail * 2 ^ (8 - s.degree) < 2 ^ 128 = omega (arith, fits) in
    lane-product s.degree s.tail c.requires.narrow s.context.tail_below 32 _ i c.low_bytes-left.result c.low_bytes-right.result
    c.multiply_byte_lanes-products.result c.low_bytes-left.ensures.long c.low_bytes-right.ensures.long within (mod-eq_of_lt below)
    c.multiply_byte_lanes-products.ensures
    ∙ ap₂ (field_product s.degree s.tail) (c.low_bytes-left.ensures.bytes i within d) (c.low_bytes-right.ensures.bytes i within d)
    ∙ low_bytes-product s.degree s.tail c.requires.narrow s.context.tail_below _ _
