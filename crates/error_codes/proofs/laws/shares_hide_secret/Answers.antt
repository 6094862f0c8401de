use Rattle.error_codes.proofs.Secrets.{shares_hide_secret}
use Rattle.error_codes.proofs.laws.shares_hide_secret.Goals as goal

pub returns : goal.returns
returns c = shares_hide_secret
