use Rattle.error_codes.proofs.Marking.{none-marked}
use Rattle.error_codes.proofs.unmarked.no_marks.Goals as goal

pub returns : goal.returns
returns c = none-marked 256
