use Rattle.field_slices.proofs.Openings.{openings_need_luck}
use Rattle.field_slices.proofs.near_codes.openings_need_luck.Goals as goal

pub returns : goal.returns
returns c = openings_need_luck
