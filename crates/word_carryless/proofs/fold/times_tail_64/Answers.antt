use Rattle.std.proofs.Common.{arith}
use Rattle.word_carryless.proofs.TailFolds.{fold_64}
use Rattle.word_carryless.proofs.fold.times_tail_64.Goals as goal

pub returns : goal.returns
returns c = fold_64.low c.args.h (omega arith)
