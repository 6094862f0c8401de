use Rattle.field_slices.proofs.Blocks.{few_cheats_in_blocks}
use Rattle.field_slices.proofs.near_codes.few_cheats_in_blocks.Goals as goal

pub returns : goal.returns
returns c = few_cheats_in_blocks
