use Rattle.field_slices.proofs.DeterminantInverses.{determinant_tells_inverses}
use Rattle.field_slices.proofs.matrix_laws.determinant_tells_inverses.Goals as goal

pub returns : goal.returns
returns c = determinant_tells_inverses
