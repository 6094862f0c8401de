-- A number of at most 128 bits is its low word.
use Rattle.calculator.proofs.NumberLemmas.{low-word}
use Rattle.calculator.proofs.number.Number.to_word.Goals as goal

pub returns : goal.returns
returns c = low-word c.args.bits c.args.self.high c.args.self.low c.requires.few c.requires.fits
