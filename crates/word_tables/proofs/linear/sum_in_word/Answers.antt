use Rattle.std.proofs.Common.{◌<◌, arith}
use Rattle.word_tables.proofs.DigitMaps.{sum_from_more, sum_from_none}
use Rattle.word_tables.proofs.linear.sum_in_word.Goals as goal

pub loop-i-init : goal.loop-i-init
loop-i-init c = sum_from_none c.args.first c.args.values.now c.args.x

pub loop-i-preserved : goal.loop-i-preserved
loop-i-preserved c =
    let within : c.loop-i.i < 16 = omega arith in
    sum_from_more c.args.first c.loop-i.i c.args.values.now c.args.x c.loop-i.sum within c.loop-i.invariant
