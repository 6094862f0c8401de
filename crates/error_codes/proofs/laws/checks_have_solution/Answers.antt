use Rattle.error_codes.proofs.Checks.{checks_have_solution}
use Rattle.error_codes.proofs.laws.checks_have_solution.Goals as goal

pub returns : goal.returns
returns c = checks_have_solution
