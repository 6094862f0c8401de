use Rattle.error_codes.proofs.Euclid.{euclid_stops}
use Rattle.error_codes.proofs.laws.euclid_stops.Goals as goal

pub returns : goal.returns
returns c = euclid_stops
