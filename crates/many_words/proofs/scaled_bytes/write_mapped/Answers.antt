use Rattle.std.proofs.Common.{◌<◌, ◌∙◌, ap, arith, get_or, length}
use Rattle.std.proofs.lemmas.List.{get_or_default}
use Rattle.many_words.proofs.scaled_bytes.write_mapped.Goals as goal

pub returns : goal.returns
returns g c k inside d =
    let long = c.write_in_blocks.ensures.long in
    let also : k < length c.args.bytes.now = omega (arith, inside, long, c.requires.same) in
    let byte = get_or c.args.bytes.now k 0 in
    let fits = (c.type_inv.bytes k).fits in
    get_or_default c.write_in_blocks.new.products k d 0 inside ∙ c.write_in_blocks.ensures.products k inside
    ∙ c.tables_of.ensures byte fits ∙ c.images_of.ensures byte fits
    ∙ ap (λ x. g.K.FieldKernel.product x c.args.scalar) (get_or_default c.args.bytes.now k 0 d also)
