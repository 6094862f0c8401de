use Rattle.std.proofs.Common.{◌≡◌, ◌∙◌, sym, ap, arith}
use Rattle.field_bytes.specs.Bytes.{number_of_bytes}
use Rattle.field_bytes.proofs.Taking.{all_taken, byte_read, few_left, few_taken, nothing_read}
use Rattle.field_bytes.proofs.reading.take_word.Goals as goal

pub loop-i-init : goal.loop-i-init
loop-i-init g c = (
  c.requires,
  nothing_read g.I.Iterator.next_gives c.args.iter.now _ (ap g.R.Stored.number c.ZERO-word.ensures ∙ g.R.Stored.zero_number),
  (λ finite. (finite, omega arith)),
)

pub with_byte-word-requires-clause-above : goal.with_byte-word-requires-clause-above
with_byte-word-requires-clause-above g c = c.loop-i.invariant.1.below

pub loop-i-preserved : goal.loop-i-preserved
loop-i-preserved g c = (
  c.in-Some.ensures.goes.keeps,
  byte_read g.I.Iterator.next_gives c.args.iter.now c.loop-i.i (g.R.Stored.number c.loop-i.word) _ c.in-Some.byte c.loop-i.iter c.next_byte.new.iter
      c.loop-i.invariant.1 c.in-Some.ensures.steps c.in-Some.ensures.fits c.with_byte-word.ensures,
  (λ finite.
      let before = c.loop-i.invariant.2 finite in let step = c.in-Some.ensures.goes.on before.0 in (step.1, omega (arith, before.1, step.2))),
)

pub returns-in-None : goal.returns-in-None
returns-in-None g c =
    let done = c.loop-i.invariant.1 in
    record {
      taken =
          few_taken g.I.Iterator.next_gives (λ bytes. g.R.Stored.number c.loop-i.word ≡ number_of_bytes bytes) _ c.loop-i.iter done.taken c.loop-i.i g.R.LittleEndian.SIZE _ done.yields
          done.long (sym done.is) (omega (arith, c.loop-i-test.true, c.SIZE-i-end.ensures)) c.in-None.ensures.steps;
      goes_on = λ whole. absurd (omega (arith, whole, c.loop-i-test.true, c.SIZE-i-end.ensures));
      ends = few_left _ _ _ c.loop-i.i g.R.LittleEndian.SIZE (omega (arith, c.loop-i-test.true, c.SIZE-i-end.ensures)) c.loop-i.invariant.2;
    }

pub returns-clause-taken : goal.returns-clause-taken
returns-clause-taken g c =
    let done = c.loop-i.invariant.1 in
    all_taken g.I.Iterator.next_gives (λ bytes. g.R.Stored.number c.loop-i.word ≡ number_of_bytes bytes) _ _ done.taken c.loop-i.i g.R.LittleEndian.SIZE _ done.yields done.long
    (sym done.is) (omega (arith, c.loop-i-test.false, c.loop-i.auto.i-end, c.SIZE-i-end.ensures)) c.SIZE.ensures
