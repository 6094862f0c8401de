use Rattle.any_field.proofs.RatioSteps.{doubled-word, top-bit}
use Rattle.any_field.proofs.reduction.times_x.Goals as goal

pub times_bit-requires : goal.times_bit-requires
times_bit-requires c = top-bit c.args.width c.args.tail c.args.x c.requires.wide c.requires.tail_fits c.requires.fits

pub returns : goal.returns
returns c =
    doubled-word c.args.width c.args.tail c.args.x c.low_bits.result c.times_bit.result c.requires.wide c.requires.narrow c.requires.tail_fits
    c.requires.fits c.low_bits.ensures c.times_bit.ensures
