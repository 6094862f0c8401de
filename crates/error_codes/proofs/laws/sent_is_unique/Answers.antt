use Rattle.error_codes.proofs.Checks.{sent_is_unique}
use Rattle.error_codes.proofs.laws.sent_is_unique.Goals as goal

pub returns : goal.returns
returns c = sent_is_unique
