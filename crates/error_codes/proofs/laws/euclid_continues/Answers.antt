use Rattle.error_codes.proofs.Euclid.{euclid_continues}
use Rattle.error_codes.proofs.laws.euclid_continues.Goals as goal

pub returns : goal.returns
returns c = euclid_continues
