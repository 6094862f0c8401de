use Rattle.error_codes.proofs.Checks.{syndromes_decode}
use Rattle.error_codes.proofs.laws.syndromes_decode.Goals as goal

pub returns : goal.returns
returns c = syndromes_decode
