use Rattle.error_codes.proofs.Divisions.{divisions_are_exact}
use Rattle.error_codes.proofs.laws.divisions_are_exact.Goals as goal

pub returns : goal.returns
returns c = divisions_are_exact
