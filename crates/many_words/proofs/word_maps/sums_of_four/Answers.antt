use Rattle.many_words.proofs.FourImages.{sums_fit, sums_of_four}
use Rattle.many_words.proofs.word_maps.sums_of_four.Goals as goal

pub returns-clause-sums : goal.returns-clause-sums
returns-clause-sums c = sums_of_four c.args.a c.args.b c.args.c c.args.d

pub returns-clause-fit : goal.returns-clause-fit
returns-clause-fit c =
    sums_fit c.args.a c.args.b c.args.c c.args.d 64 c.ranges.a.fits c.ranges.b.fits c.ranges.c.fits c.ranges.d.fits
