use Rattle.error_codes.proofs.Euclid.{euclid_starts}
use Rattle.error_codes.proofs.laws.euclid_starts.Goals as goal

pub returns : goal.returns
returns c = euclid_starts
