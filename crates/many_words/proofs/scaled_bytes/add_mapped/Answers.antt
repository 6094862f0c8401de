use Rattle.std.proofs.Common.{◌<◌, ◌∙◌, ap, ap₂, arith, get_or, length}
use Rattle.std.specs.Prelude.{bit_xor}
use Rattle.std.proofs.lemmas.List.{get_or_default}
use Rattle.many_words.proofs.scaled_bytes.add_mapped.Goals as goal

pub returns : goal.returns
returns g c k inside d =
    let long = c.add_in_blocks.ensures.long in
    let within : k < length c.args.sums.now = omega (arith, inside, long) in
    let also : k < length c.args.bytes.now = omega (arith, within, c.requires.same) in
    let byte = get_or c.args.bytes.now k 0 in
    let fits = (c.type_inv.bytes k).fits in
    get_or_default c.add_in_blocks.new.sums k d 0 inside ∙ c.add_in_blocks.ensures.sums k inside
    ∙ ap₂ bit_xor (get_or_default c.args.sums.now k 0 d within)
    (c.tables_of.ensures byte fits ∙ c.images_of.ensures byte fits ∙ g.K.FieldKernel.field_law.ring.comm byte c.args.scalar
    ∙ ap (g.K.FieldKernel.product c.args.scalar) (get_or_default c.args.bytes.now k 0 d also))
