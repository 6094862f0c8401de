use Rattle.word_tables.proofs.HalfImages.{sums_at}
use Rattle.word_tables.proofs.nibbles.sums_of_four.Goals as goal

pub returns : goal.returns
returns c = sums_at c.args.a c.args.b c.args.c c.args.d c.ranges.a.fits c.ranges.b.fits c.ranges.c.fits c.ranges.d.fits
