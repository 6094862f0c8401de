-- One digit after another.
use Rattle.std.proofs.Common.{add-one, arith}
use Rattle.calculator.proofs.ModulusLemmas.{decimal-step, decimal-stop, decimal-end, decimal-room}
use Rattle.calculator.proofs.chosen.decimal_value.Goals as goal

pub returns-in-None : goal.returns-in-None
returns-in-None c =
    let l = c.loop-character in
    decimal-stop l.number l.character-index c.args.word.now _ c.loop-character-test.true c.in-None.ensures.value l.invariant.rest

pub loop-character-preserved : goal.loop-character-preserved
loop-character-preserved c =
    let l = c.loop-character in
    rw (add-one) (record {
      fits = decimal-room l.number c.in-Some.digit l.character-index l.invariant.fits c.in-Some.ensures.few;
      rest = decimal-step l.number l.character-index c.in-Some.digit c.args.word.now _ c.loop-character-test.true c.in-Some.ensures.value l.invariant.rest;
    })

pub returns : goal.returns
returns c =
    let l = c.loop-character in
    decimal-end l.number l.character-index c.args.word.now _ (omega (arith, c.loop-character-test.false)) l.invariant.rest
