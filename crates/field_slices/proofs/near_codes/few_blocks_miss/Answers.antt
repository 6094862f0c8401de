use Rattle.field_slices.proofs.Blocks.{few_blocks_miss}
use Rattle.field_slices.proofs.near_codes.few_blocks_miss.Goals as goal

pub returns : goal.returns
returns c = few_blocks_miss
