use Rattle.std.proofs.Common.{sym, ◌∙◌}
use Rattle.any_field.proofs.WordRemainders.{product-fits, multiplied}
use Rattle.any_field.proofs.reduction.multiply.Goals as goal

pub reduce_half-requires-clause-fits : goal.reduce_half-requires-clause-fits
reduce_half-requires-clause-fits c =
    product-fits c.args.x c.args.y c.args.width _ c.requires.x_fits c.requires.y_fits (sym c.multiply_32-product.ensures)

pub returns-then-width-le32 : goal.returns-then-width-le32
returns-then-width-le32 c =
    c.reduce_half.ensures
    ∙ multiplied c.args.width c.args.tail c.args.x c.args.y _ c.requires.context.tail_below c.requires.x_fits c.requires.y_fits (sym c.multiply_32-product.ensures)

pub reduce_word-requires-clause-fits : goal.reduce_word-requires-clause-fits
reduce_word-requires-clause-fits c =
    product-fits c.args.x c.args.y c.args.width _ c.requires.x_fits c.requires.y_fits (sym c.multiply_64-product.ensures)

pub returns-then-width-le64 : goal.returns-then-width-le64
returns-then-width-le64 c =
    c.reduce_word.ensures
    ∙ multiplied c.args.width c.args.tail c.args.x c.args.y _ c.requires.context.tail_below c.requires.x_fits c.requires.y_fits (sym c.multiply_64-product.ensures)

pub reduce-requires-clause-fits : goal.reduce-requires-clause-fits
reduce-requires-clause-fits c =
    product-fits c.args.x c.args.y c.args.width _ c.requires.x_fits c.requires.y_fits c.multiply_128-low.ensures

pub returns : goal.returns
returns c =
    c.reduce.ensures
    ∙ multiplied c.args.width c.args.tail c.args.x c.args.y _ c.requires.context.tail_below c.requires.x_fits c.requires.y_fits c.multiply_128-low.ensures
