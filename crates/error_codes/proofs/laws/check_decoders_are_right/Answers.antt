use Rattle.error_codes.proofs.Checks.{check_decoders_are_right}
use Rattle.error_codes.proofs.laws.check_decoders_are_right.Goals as goal

pub returns : goal.returns
returns c = check_decoders_are_right
