use Rattle.field_slices.proofs.Folds.{far_matrices_need_luck}
use Rattle.field_slices.proofs.near_codes.far_matrices_need_luck.Goals as goal

pub returns : goal.returns
returns c = far_matrices_need_luck
