use Rattle.std.proofs.Common.{arith}
use Rattle.word_carryless.proofs.Squares.{spread_32}
use Rattle.word_carryless.proofs.square.spread_32.Goals as goal

pub returns : goal.returns
returns c =
    spread_32 c.args.x c.move_halves-halves.result c.move_halves-bytes.result c.move_halves-nibbles.result
    c.move_halves-pairs.result c.move_halves.result (omega arith) c.move_halves-halves.ensures
    c.move_halves-bytes.ensures c.move_halves-nibbles.ensures c.move_halves-pairs.ensures c.move_halves.ensures
