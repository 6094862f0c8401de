use Rattle.error_codes.proofs.Secrecy.{byte_shares_are_counted}
use Rattle.error_codes.proofs.share_laws.byte_shares_are_counted.Goals as goal

pub returns : goal.returns
returns c = byte_shares_are_counted
