use Rattle.error_codes.proofs.Erasures.{null_vectors_exist}
use Rattle.error_codes.proofs.laws.null_vectors_exist.Goals as goal

pub returns : goal.returns
returns c = null_vectors_exist
