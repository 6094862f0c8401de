use Rattle.error_codes.proofs.Secrecy.{split_shares_combine}
use Rattle.error_codes.proofs.share_laws.split_shares_combine.Goals as goal

pub returns : goal.returns
returns c = split_shares_combine
