use Rattle.error_codes.proofs.Checks.{syndromes_correct}
use Rattle.error_codes.proofs.laws.syndromes_correct.Goals as goal

pub returns : goal.returns
returns c = syndromes_correct
