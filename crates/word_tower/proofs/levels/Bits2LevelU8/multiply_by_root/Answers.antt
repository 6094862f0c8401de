use Rattle.field_base.specs.Tower.{root}
use Rattle.word_tower.proofs.LowLevels.{cut_product}
use Rattle.word_tower.proofs.levels.Bits2LevelU8.multiply_by_root.Goals as goal

pub returns : goal.returns
unfolding root
returns c = cut_product 2 1 (root 1) c.args.x _ c.multiply_8.ensures
