use Rattle.error_codes.proofs.Generators.{syndromes_are_values}
use Rattle.error_codes.proofs.laws.syndromes_are_values.Goals as goal

pub returns : goal.returns
returns c = syndromes_are_values
