use Rattle.field_slices.proofs.Folds.{few_folds_are_near}
use Rattle.field_slices.proofs.near_codes.few_folds_are_near.Goals as goal

pub returns : goal.returns
returns c = few_folds_are_near
