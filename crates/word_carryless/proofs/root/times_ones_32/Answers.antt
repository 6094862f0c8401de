use Rattle.std.proofs.Common.{arith}
use Rattle.word_carryless.proofs.Roots.{times_ones}
use Rattle.word_carryless.proofs.root.times_ones_32.Goals as goal

pub returns : goal.returns
returns c = times_ones c.args.half (omega arith)
