use Rattle.field_slices.proofs.Counts.{few_points_fold_near}
use Rattle.field_slices.proofs.near_codes.few_points_fold_near.Goals as goal

pub returns : goal.returns
returns c = few_points_fold_near
