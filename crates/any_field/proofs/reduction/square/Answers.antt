use Rattle.std.proofs.Common.{sym, ◌∙◌}
use Rattle.any_field.proofs.WordRemainders.{product-fits, multiplied}
use Rattle.any_field.proofs.reduction.square.Goals as goal

pub reduce_half-requires-clause-fits : goal.reduce_half-requires-clause-fits
reduce_half-requires-clause-fits c =
    product-fits c.args.x c.args.x c.args.width _ c.requires.fits c.requires.fits (sym c.spread_32-product.ensures)

pub returns-then-width-le32 : goal.returns-then-width-le32
returns-then-width-le32 c =
    c.reduce_half.ensures
    ∙ multiplied c.args.width c.args.tail c.args.x c.args.x _ c.requires.context.tail_below c.requires.fits c.requires.fits (sym c.spread_32-product.ensures)

pub reduce_word-requires-clause-fits : goal.reduce_word-requires-clause-fits
reduce_word-requires-clause-fits c =
    product-fits c.args.x c.args.x c.args.width _ c.requires.fits c.requires.fits (sym c.carryless_square_64-product.ensures)

pub returns-then-width-le64 : goal.returns-then-width-le64
returns-then-width-le64 c =
    c.reduce_word.ensures
    ∙ multiplied c.args.width c.args.tail c.args.x c.args.x _ c.requires.context.tail_below c.requires.fits c.requires.fits (sym c.carryless_square_64-product.ensures)

pub reduce-requires-clause-fits : goal.reduce-requires-clause-fits
reduce-requires-clause-fits c =
    product-fits c.args.x c.args.x c.args.width _ c.requires.fits c.requires.fits c.carryless_square_128-low.ensures

pub returns : goal.returns
returns c =
    c.reduce.ensures
    ∙ multiplied c.args.width c.args.tail c.args.x c.args.x _ c.requires.context.tail_below c.requires.fits c.requires.fits
    c.carryless_square_128-low.ensures
