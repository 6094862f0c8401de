use Rattle.field_slices.proofs.Counts.{few_cheats_are_accepted}
use Rattle.field_slices.proofs.near_codes.few_cheats_are_accepted.Goals as goal

pub returns : goal.returns
returns c = few_cheats_are_accepted
