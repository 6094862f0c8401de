use Rattle.field_slices.proofs.NullSpaces.{null_is_kept}
use Rattle.field_slices.proofs.matrix_laws.null_space_is_kept.Goals as goal

pub returns : goal.returns
returns c = null_is_kept
