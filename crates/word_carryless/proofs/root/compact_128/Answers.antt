use Rattle.std.proofs.Common.{arith}
use Rattle.word_carryless.proofs.Compacting.{compact_double_word}
use Rattle.word_carryless.proofs.root.compact_128.Goals as goal

pub returns : goal.returns
returns c =
    compact_double_word c.args.x c.split_128-low.result.0 c.split_128-low.result.1 c.compact_64-2.result
    c.compact_64.result (omega arith) (omega arith) (omega arith) c.split_128-low.ensures c.compact_64-2.ensures
    c.compact_64.ensures
