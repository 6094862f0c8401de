use Rattle.error_codes.proofs.Checks.{values_are_checked}
use Rattle.error_codes.proofs.laws.values_are_checked.Goals as goal

pub returns : goal.returns
returns c = values_are_checked
