use Rattle.word_polynomial.specs.lemmas.Triple.{triple-low}
use Rattle.word_polynomial.proofs.triple.Triple.of_low.Goals as goal

pub returns : goal.returns
returns c = triple-low 64 c.args.c0
