use Rattle.std.proofs.Common.{length, refl, arith}
use lib.Arith.{digits_lt}
use Rattle.error_codes.proofs.WordColumns.{word-is, word-more}
use Rattle.error_codes.proofs.interleaved.write_word.Goals as goal

pub loop-i-preserved : goal.loop-i-preserved
loop-i-preserved c =
    let place = digits_lt c.loop-i-test.true c.requires.inside in
    word-more c.args.depth c.args.c c.loop-i.i _ c.args.word.now c.args.symbols.now c.loop-i.symbols c.requires.inside
    (omega (arith, place, c.requires.whole, c.loop-i.invariant.long)) refl c.loop-i.invariant

pub returns-clause-written : goal.returns-clause-written
returns-clause-written c =
    word-is (length c.args.word.now) c.args.depth c.loop-i.symbols c.args.word.now c.args.c refl
    (λ i below. c.loop-i.invariant.own i (omega (arith, below, c.loop-i-test.false)))
