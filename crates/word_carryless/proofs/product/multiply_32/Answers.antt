use Rattle.std.proofs.Common.{◌∙◌, arith}
use Rattle.word_carryless.proofs.KaratsubaLemmas.{carryless_32}
use Rattle.word_carryless.proofs.product.multiply_32.Goals as goal

pub returns : goal.returns
returns c = c.multiply_low_64.ensures ∙ carryless_32 c.args.x c.args.y (omega arith) (omega arith)
