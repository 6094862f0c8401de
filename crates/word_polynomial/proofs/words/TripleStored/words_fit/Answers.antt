use Rattle.field_base.proofs.WordValues.{values_fit}
use Rattle.word_polynomial.specs.Triple.{triple_number}
use Rattle.word_polynomial.specs.lemmas.Triple.{fits_192}
use Rattle.word_polynomial.proofs.words.TripleStored.words_fit.Goals as goal

pub returns : goal.returns
returns c = values_fit 192 triple_number fits_192 c.args.words.now
