use Rattle.std.proofs.Common.{◌<◌, length, ◌∙◌, ap, arith}
use Rattle.std.specs.Prelude.{slice_index_or}
use Rattle.field_element.proofs.element.lanes.ProductsOnWords.change.Goals as goal

pub returns-clause-results : goal.returns-clause-results
returns-clause-results g c k below d =
    let done : k < length c.multiply_all.new.products = omega (arith, below, c.multiply_all.ensures.long) in
    let read : k < length c.read_from.new.words = omega (arith, below, c.read_from.ensures.long, c.requires.room) in
    c.multiply_all.ensures.products k done d
    ∙ ap (g.K.FieldKernel.product (g.R.Stored.number (slice_index_or c.args.words.now k d))) (c.read_from.ensures.read k read d)
