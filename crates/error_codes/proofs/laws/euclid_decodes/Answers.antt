use Rattle.error_codes.proofs.Euclid.{euclid_decodes}
use Rattle.error_codes.proofs.laws.euclid_decodes.Goals as goal

pub returns : goal.returns
returns c = euclid_decodes
