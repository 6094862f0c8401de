use Rattle.field_base.proofs.WordValues.{values_fit}
use Rattle.c_calls.specs.Fields.{cubic_number}
use Rattle.c_calls.specs.lemmas.Wide.{cubic_number-lt}
use Rattle.c_calls.proofs.words.CubicReadsTriple.numbers_fit.Goals as goal

pub returns : goal.returns
returns c = values_fit 192 cubic_number cubic_number-lt c.args.places.now
