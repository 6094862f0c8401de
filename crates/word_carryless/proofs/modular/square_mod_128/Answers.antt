use Rattle.std.proofs.Common.{arith}
use Rattle.word_carryless.proofs.ModularProducts.{reduced_128}
use Rattle.word_carryless.proofs.modular.square_mod_128.Goals as goal

pub returns : goal.returns
returns c =
    reduced_128 c.args.x c.args.x c.carryless_square_128-low.result.0 c.carryless_square_128-low.result.1 c.reduce_128.result (omega arith)
    (omega arith) c.carryless_square_128-low.ensures c.reduce_128.ensures
