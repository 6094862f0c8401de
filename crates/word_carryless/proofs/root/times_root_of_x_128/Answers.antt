use Rattle.std.proofs.Common.{arith, lit<}
use Rattle.word_carryless.proofs.Roots.{product_by_words}
use Rattle.word_carryless.proofs.root.times_root_of_x_128.Goals as goal

pub returns : goal.returns
returns c =
    product_by_words 0x6db6_db6d_b6db_6da4 0x2492_4924_9249_2492 c.args.odd c.multiply_64_twice-low.result.0
    c.multiply_64_twice-low.result.1 c.reduce_128.result (lit< tt) (lit< tt) (omega arith) (omega arith)
    c.multiply_64_twice-low.ensures.first c.multiply_64_twice-low.ensures.second c.reduce_128.ensures
