use Rattle.field_base.proofs.WordValues.{values_fit}
use Rattle.word_polynomial.specs.lemmas.Triple.{fits_192}
use Rattle.field_element.specs.Coefficients.{stored_number, stored_words}
use Rattle.field_element.proofs.element.cubic_word.CoefficientsStored.words_fit.Goals as goal

pub returns : goal.returns
returns c = values_fit 192 stored_number (λ x. fits_192 (stored_words x)) c.args.words.now
