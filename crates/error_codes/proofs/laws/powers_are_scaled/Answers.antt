use Rattle.error_codes.proofs.Generators.{powers_are_scaled}
use Rattle.error_codes.proofs.laws.powers_are_scaled.Goals as goal

pub returns : goal.returns
returns c = powers_are_scaled
