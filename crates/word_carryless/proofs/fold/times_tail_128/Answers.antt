use Rattle.std.proofs.Common.{arith}
use Rattle.word_carryless.proofs.TailFolds.{fold_128}
use Rattle.word_carryless.proofs.fold.times_tail_128.Goals as goal

pub returns : goal.returns
returns c = fold_128.low c.args.h (omega arith)
