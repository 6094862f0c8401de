use Rattle.std.proofs.Common.{arith}
use Rattle.word_tower.proofs.LowLevels.{low_root_lt, low_root_squares}
use Rattle.word_tower.proofs.levels.Bits4LevelU8.sqrt.Goals as goal

pub returns-clause-fits : goal.returns-clause-fits
returns-clause-fits c = low_root_lt 1 2 c.args.x c.sqrt_8.result c.requires (omega arith) c.sqrt_8.ensures

pub returns-clause-root : goal.returns-clause-root
returns-clause-root c = low_root_squares 1 2 c.args.x c.sqrt_8.result c.requires (omega arith) c.sqrt_8.ensures
