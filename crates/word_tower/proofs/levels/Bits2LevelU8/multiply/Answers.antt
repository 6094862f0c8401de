use Rattle.word_tower.proofs.LowLevels.{cut_product}
use Rattle.word_tower.proofs.levels.Bits2LevelU8.multiply.Goals as goal

pub returns : goal.returns
returns c = cut_product 2 1 c.args.x c.args.y _ c.multiply_8.ensures
