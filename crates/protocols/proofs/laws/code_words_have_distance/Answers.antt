use Rattle.protocols.proofs.CodeDistances.{code_words_have_distance}
use Rattle.protocols.proofs.laws.code_words_have_distance.Goals as goal

pub returns : goal.returns
returns c = code_words_have_distance
