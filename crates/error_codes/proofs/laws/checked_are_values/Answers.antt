use Rattle.error_codes.proofs.Duals.{checked_are_values}
use Rattle.error_codes.proofs.laws.checked_are_values.Goals as goal

pub returns : goal.returns
returns c = checked_are_values
