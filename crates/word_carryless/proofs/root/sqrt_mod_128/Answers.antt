use Rattle.std.proofs.Common.{arith}
use Rattle.word_carryless.proofs.Roots.{root_128}
use Rattle.word_carryless.proofs.root.sqrt_mod_128.Goals as goal

pub returns : goal.returns
returns c =
    root_128 c.args.x c.compact_128-even.result c.compact_128-odd.result c.times_root_of_x_128.result (omega arith)
    (omega arith) (omega arith) c.compact_128-even.ensures c.compact_128-odd.ensures c.times_root_of_x_128.ensures
