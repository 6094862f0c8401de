use Rattle.std.proofs.Common.{arith}
use Rattle.word_carryless.proofs.Roots.{product_by_terms}
use Rattle.word_carryless.proofs.root.times_root_of_x_64.Goals as goal

pub returns : goal.returns
returns c =
    product_by_terms c.args.odd c.times_ones_32-by_ones.result c.reduce_64.result (omega arith)
    c.times_ones_32-by_ones.ensures c.reduce_64.ensures
