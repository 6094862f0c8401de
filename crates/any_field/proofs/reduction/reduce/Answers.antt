use Rattle.std.proofs.Common.{◌∙◌, ap}
use Rattle.std.specs.Prelude.{bit_xor}
use Rattle.any_field.proofs.WordRemainders.{above-fits, product-fits, reduced}
use Rattle.any_field.proofs.reduction.reduce.Goals as goal

pub high_bits-requires-clause-fits : goal.high_bits-requires-clause-fits
high_bits-requires-clause-fits c =
    product-fits c.high_bits-above.result c.args.ratio c.args.width _
    (above-fits c.args.width c.args.low c.args.high c.high_bits-above.result c.requires.fits c.high_bits-above.ensures) c.requires.context.ratio_below
    c.multiply_128-middle.ensures

pub returns : goal.returns
returns c =
    c.low_bits.ensures
    ∙ reduced c.args.width c.args.tail c.args.ratio c.args.low c.args.high c.high_bits-above.result c.multiply_128-middle.result.0
    c.multiply_128-middle.result.1 (bit_xor c.high_bits-above.result c.high_bits.result) c.multiply_128-multiple.result.0
    c.multiply_128-multiple.result.1 c.requires.context c.requires.fits c.high_bits-above.ensures c.multiply_128-middle.ensures
    (ap (bit_xor c.high_bits-above.result) c.high_bits.ensures) c.multiply_128-multiple.ensures
