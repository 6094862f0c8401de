use Rattle.std.proofs.Common.{◌∙◌}
use Rattle.c_calls.proofs.chosen_words.ChosenWordsScalarWords.truncated.Goals as goal

pub returns : goal.returns
returns c = c.of_stored.ensures ∙ c.low_bits.ensures
