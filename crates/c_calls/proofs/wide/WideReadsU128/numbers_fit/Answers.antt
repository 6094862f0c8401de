use Rattle.field_base.proofs.WordValues.{values_fit}
use Rattle.c_calls.specs.Fields.{wide_number}
use Rattle.c_calls.specs.lemmas.Wide.{wide_number-lt}
use Rattle.c_calls.proofs.wide.WideReadsU128.numbers_fit.Goals as goal

pub returns : goal.returns
returns c = values_fit 128 wide_number wide_number-lt c.args.places.now
