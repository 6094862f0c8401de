use Rattle.error_codes.proofs.FewerShares.{fewer_shares_are_counted}
use Rattle.error_codes.proofs.laws.fewer_shares_are_counted.Goals as goal

pub returns : goal.returns
returns c = fewer_shares_are_counted
