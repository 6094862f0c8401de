use Rattle.error_codes.proofs.Secrecy.{changed_shares_are_found}
use Rattle.error_codes.proofs.share_laws.changed_shares_are_found.Goals as goal

pub returns : goal.returns
returns c = changed_shares_are_found
