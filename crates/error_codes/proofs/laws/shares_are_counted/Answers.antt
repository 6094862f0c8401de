use Rattle.error_codes.proofs.Counts.{shares_are_counted}
use Rattle.error_codes.proofs.laws.shares_are_counted.Goals as goal

pub returns : goal.returns
returns c = shares_are_counted
