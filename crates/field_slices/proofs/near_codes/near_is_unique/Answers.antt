use Rattle.field_slices.proofs.Openings.{near_is_unique}
use Rattle.field_slices.proofs.near_codes.near_is_unique.Goals as goal

pub returns : goal.returns
returns c = near_is_unique
