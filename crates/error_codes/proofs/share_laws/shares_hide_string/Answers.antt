use Rattle.error_codes.proofs.Secrecy.{shares_hide_string}
use Rattle.error_codes.proofs.share_laws.shares_hide_string.Goals as goal

pub returns : goal.returns
returns c = shares_hide_string
