use Rattle.field_slices.proofs.EchelonUniqueness.{echelon_is_unique}
use Rattle.field_slices.proofs.matrix_laws.reduced_echelon_is_unique.Goals as goal

pub returns : goal.returns
returns c = echelon_is_unique
