use Rattle.std.proofs.Common.{arith}
use Rattle.word_tower.proofs.LowLevels.{low_inverse_inverts, low_inverse_lt}
use Rattle.word_tower.proofs.levels.Bits2LevelU8.invert.Goals as goal

pub returns-clause-fits : goal.returns-clause-fits
returns-clause-fits c =
    low_inverse_lt 2 1 c.args.x c.invert_8.result c.requires (omega arith) c.invert_8.ensures.zero c.invert_8.ensures.inverse

pub returns-clause-inverse : goal.returns-clause-inverse
returns-clause-inverse c = low_inverse_inverts 2 1 c.args.x c.invert_8.result c.requires (omega arith) c.invert_8.ensures.inverse
