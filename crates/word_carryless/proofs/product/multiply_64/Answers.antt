use Rattle.std.proofs.Common.{arith}
use Rattle.word_carryless.proofs.KaratsubaLemmas.{carryless_64}
use Rattle.word_carryless.proofs.product.multiply_64.Goals as goal

pub returns : goal.returns
returns c =
    carryless_64 c.args.x c.args.y c.split_64-x0.result.0 c.split_64-x0.result.1 c.split_64-y0.result.0 c.split_64-y0.result.1
    c.multiply_32_twice-low.result.0 c.multiply_32_twice-low.result.1 c.multiply_32.result c.join_halves.result
    (omega arith) (omega arith) c.split_64-x0.ensures c.split_64-y0.ensures
    c.multiply_32_twice-low.ensures.first c.multiply_32_twice-low.ensures.second
    c.multiply_32.ensures c.join_halves.ensures
