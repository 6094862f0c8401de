use Rattle.std.proofs.Common.{arith}
use Rattle.word_carryless.proofs.TailFolds.{fold_64}
use Rattle.word_carryless.proofs.fold.spill_64.Goals as goal

pub returns : goal.returns
returns c = fold_64.high c.args.h (omega arith)
