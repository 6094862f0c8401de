use Rattle.std.proofs.Common.{arith}
use Rattle.tags.proofs.FourProducts.{sum_of_products}
use Rattle.tags.proofs.blocks.sum_of_products.Goals as goal

pub returns : goal.returns
returns c =
    sum_of_products c.args.a c.args.b c.args.c c.args.d c.args.powers.now.fourth c.args.powers.now.cube c.args.powers.now.square
    c.args.powers.now.key c.multiply_128_twice-a_low.result.0.0 c.multiply_128_twice-a_low.result.1.0 c.multiply_128_twice-c_low.result.0.0
    c.multiply_128_twice-c_low.result.1.0 c.multiply_128_twice-a_low.result.0.1 c.multiply_128_twice-a_low.result.1.1 c.multiply_128_twice-c_low.result.0.1
    c.multiply_128_twice-c_low.result.1.1 c.reduce_128.result (omega arith) (omega arith) (omega arith) (omega arith) (omega arith)
    (omega arith) (omega arith) (omega arith) (omega arith) (omega arith) (omega arith) (omega arith)
    c.multiply_128_twice-a_low.ensures.first c.multiply_128_twice-a_low.ensures.second c.multiply_128_twice-c_low.ensures.first c.multiply_128_twice-c_low.ensures.second
    c.reduce_128.ensures
