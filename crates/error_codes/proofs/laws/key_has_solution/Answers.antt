use Rattle.error_codes.proofs.Decoding.{key_has_solution}
use Rattle.error_codes.proofs.laws.key_has_solution.Goals as goal

pub returns : goal.returns
returns c = key_has_solution
