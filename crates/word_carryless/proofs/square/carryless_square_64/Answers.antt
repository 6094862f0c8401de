use Rattle.std.proofs.Common.{arith}
use Rattle.word_carryless.proofs.Squares.{carryless_square_64}
use Rattle.word_carryless.proofs.square.carryless_square_64.Goals as goal

pub returns : goal.returns
returns c =
    carryless_square_64 c.args.x c.split_64-low.result.0 c.split_64-low.result.1 c.spread_32-2.result c.spread_32.result
    (omega arith) (omega arith) c.split_64-low.ensures c.spread_32-2.ensures c.spread_32.ensures
