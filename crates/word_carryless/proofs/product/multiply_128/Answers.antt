use Rattle.std.proofs.Common.{arith}
use Rattle.word_carryless.proofs.KaratsubaLemmas.{carryless_128}
use Rattle.word_carryless.proofs.product.multiply_128.Goals as goal

pub returns : goal.returns
returns c =
    carryless_128 c.args.x c.args.y c.split_128-x0.result.0 c.split_128-x0.result.1 c.split_128-y0.result.0
    c.split_128-y0.result.1 c.multiply_64_twice-low.result.0 c.multiply_64_twice-low.result.1 c.multiply_64.result
    (omega arith) (omega arith) (omega arith) c.split_128-x0.ensures c.split_128-y0.ensures
    c.multiply_64_twice-low.ensures.first c.multiply_64_twice-low.ensures.second c.multiply_64.ensures
