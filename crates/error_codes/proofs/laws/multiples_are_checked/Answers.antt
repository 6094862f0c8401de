use Rattle.error_codes.proofs.Generators.{multiples_are_checked}
use Rattle.error_codes.proofs.laws.multiples_are_checked.Goals as goal

pub returns : goal.returns
returns c = multiples_are_checked
