use Rattle.std.proofs.Common.{arith}
use Rattle.word_carryless.proofs.TailFolds.{fold_128}
use Rattle.word_carryless.proofs.fold.spill_128.Goals as goal

pub returns : goal.returns
returns c = fold_128.high c.args.h (omega arith)
