use Rattle.std.proofs.Common.{arith}
use Rattle.word_carryless.proofs.Roots.{root_64}
use Rattle.word_carryless.proofs.root.sqrt_mod_64.Goals as goal

pub returns : goal.returns
returns c =
    root_64 c.args.x c.compact_64-even.result c.compact_64-odd.result c.times_root_of_x_64.result (omega arith)
    (omega arith) (omega arith) c.compact_64-even.ensures c.compact_64-odd.ensures c.times_root_of_x_64.ensures
