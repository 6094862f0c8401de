use Rattle.field_slices.proofs.DeterminantProducts.{determinants_multiply}
use Rattle.field_slices.proofs.matrix_laws.determinants_multiply.Goals as goal

pub returns : goal.returns
returns c = determinants_multiply
