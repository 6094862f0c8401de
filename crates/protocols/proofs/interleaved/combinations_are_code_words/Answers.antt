use Rattle.protocols.proofs.CodeColumns.{combinations_are_code_words}
use Rattle.protocols.proofs.interleaved.combinations_are_code_words.Goals as goal

pub returns : goal.returns
returns c = combinations_are_code_words
