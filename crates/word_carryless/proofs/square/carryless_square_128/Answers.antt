use Rattle.std.proofs.Common.{arith}
use Rattle.word_carryless.proofs.NibbleSquares.{carryless_square_128}
use Rattle.word_carryless.proofs.square.carryless_square_128.Goals as goal

pub returns : goal.returns
returns c =
    carryless_square_128 c.args.x c.number_of_bytes.result c.number_of_bytes-2.result c.bytes_of_128-bytes.result c.low_squares.result c.high_squares.result
    (omega arith) c.bytes_of_128-bytes.ensures c.low_squares.ensures c.high_squares.ensures c.number_of_bytes.ensures c.number_of_bytes-2.ensures
