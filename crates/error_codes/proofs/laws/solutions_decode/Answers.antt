use Rattle.error_codes.proofs.Decoding.{solutions_decode}
use Rattle.error_codes.proofs.laws.solutions_decode.Goals as goal

pub returns : goal.returns
returns c = solutions_decode
