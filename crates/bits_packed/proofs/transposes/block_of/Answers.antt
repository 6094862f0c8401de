use Rattle.std.proofs.Common.{◌+◌, arith, refl}
use Rattle.bits_packed.specs.BitMatrices.{row_word}
use Rattle.bits_packed.proofs.WordRanges.{one_more_filled}
use Rattle.bits_packed.proofs.transposes.block_of.Goals as goal

pub loop-offset-init : goal.loop-offset-init
loop-offset-init c = (refl, λ k below. absurd (omega (arith, below)))

pub loop-offset-preserved : goal.loop-offset-preserved
loop-offset-preserved c =
    one_more_filled 64 c.loop-offset.offset c.word_from.result
    (λ k. row_word c.args.shape.rows c.args.shape.words c.args.source.now (c.args.first + k) c.args.word) c.loop-offset.block
    (omega arith) c.word_from.ensures c.loop-offset.invariant

pub returns : goal.returns
returns c = λ k inside. c.loop-offset.invariant.1 k (omega (arith, inside))
