use Rattle.std.proofs.Common.{arith, sym, ◌∙◌}
use Rattle.word_carryless.proofs.ModularProducts.{reduced_64}
use Rattle.word_carryless.proofs.modular.multiply_mod_64.Goals as goal

pub returns : goal.returns
returns c =
    reduced_64 c.args.x c.args.y c.split_128-low.result.0 c.split_128-low.result.1 c.reduce_64.result (omega arith)
    (omega arith) (sym c.multiply_64.ensures ∙ c.split_128-low.ensures) c.reduce_64.ensures
