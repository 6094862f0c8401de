use Rattle.error_codes.proofs.Erasures.{erasures_multiply}
use Rattle.error_codes.proofs.laws.erasures_multiply.Goals as goal

pub returns : goal.returns
returns c = erasures_multiply
