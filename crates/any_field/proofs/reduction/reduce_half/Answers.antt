use Rattle.std.proofs.Common.{◌∙◌, arith}
use Rattle.any_field.proofs.WordRemainders.{above-word, quotient-word, word-reduced}
use Rattle.any_field.proofs.reduction.reduce_half.Goals as goal

pub overflow_cast-above-2 : goal.overflow_cast-above-2
overflow_cast-above-2 c = omega (arith, above-word c.args.width 32 c.args.word c.requires.narrow c.requires.fits)

pub overflow_cast-quotient-2 : goal.overflow_cast-quotient-2
overflow_cast-quotient-2 c =
    omega (
      arith,
      quotient-word c.args.width 32 c.args.tail c.args.ratio c.args.word c.multiply_32-middle.result c.requires.context c.requires.narrow
          c.requires.fits c.multiply_32-middle.ensures,
    )

pub returns : goal.returns
returns c =
    c.low_bits.ensures
    ∙ word-reduced c.args.width 32 c.args.tail c.args.ratio c.args.word c.multiply_32-middle.result c.requires.context c.requires.narrow
    c.requires.fits c.multiply_32-middle.ensures c.multiply_32-multiple.result c.multiply_32-multiple.ensures
