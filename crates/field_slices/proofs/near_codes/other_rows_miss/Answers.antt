use Rattle.field_slices.proofs.Openings.{other_rows_miss}
use Rattle.field_slices.proofs.near_codes.other_rows_miss.Goals as goal

pub returns : goal.returns
returns c = other_rows_miss
