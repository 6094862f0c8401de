use Rattle.error_codes.proofs.Decoding.{restored_is_only}
use Rattle.error_codes.proofs.laws.restored_is_only.Goals as goal

pub returns : goal.returns
returns c = restored_is_only
