use Rattle.std.proofs.Common.{◌≡◌, ◌<◌, ◌+◌, ◌*◌, ◌^◌, ◌∙◌, ap, sym, subst, arith, ℕ, length, map, slice_index}
use Rattle.std.proofs.lemmas.List.{length-replicate, length-set}
use Rattle.field_bytes.specs.Words.{IsWordRow}
use Rattle.field_bytes.proofs.Taking.{all_taken, few_left, few_taken}
use Rattle.field_bytes.proofs.Rows.{no_rows, row_read, word_at, word_put, zero_row}
use Rattle.field_bytes.proofs.parallel_words.take_words.Goals as goal

pub loop-i-init : goal.loop-i-init
loop-i-init g c = (
  c.requires,
  no_rows g.B.Iterator.next_gives g.W.Stored.number g.row.N c.args.rows.now _
      (zero_row g.W.Stored.number g.row.N c.ZERO-words.result (ap g.W.Stored.number c.ZERO-words.ensures ∙ g.W.Stored.zero_number)),
  (λ finite. (finite, omega arith)),
  length-replicate g.row.N c.ZERO-words.result,
)

pub loop-j-init : goal.loop-j-init
loop-j-init g c = (c.loop-i.invariant.3, c.loop-i.invariant.3, (λ k none. absurd (omega (arith, none))), (λ k none. absurd (omega (arith, none))))

pub put-requires-clause-above : goal.put-requires-clause-above
put-requires-clause-above g c =
    let within : c.loop-j.j < length c.loop-i.words = omega (arith, c.loop-j-test.true, c.loop-j.invariant.1) in
    subst (λ n. n < 2 ^ (8 * c.loop-i.i)) (sym (word_at g.W.Stored.number c.loop-i.words c.loop-j.j c.index-before-j.result within))
    (c.loop-i.invariant.1.below c.loop-j.j c.loop-j-test.true)

pub loop-j-preserved : goal.loop-j-preserved
loop-j-preserved g c =
    let within : c.loop-j.j < length c.loop-j.words = omega (arith, c.loop-j-test.true, c.loop-j.invariant.0) in
    let whole : c.loop-j.j < length c.loop-i.words = omega (arith, c.loop-j-test.true, c.loop-j.invariant.1) in (
      length-set c.loop-j.words c.loop-j.j c.put.result ∙ c.loop-j.invariant.0,
      c.loop-j.invariant.1,
      word_put g.W.Stored.number (λ k n. n < 2 ^ (8 * (c.loop-i.i + 1))) c.loop-j.words c.loop-j.j c.put.result within c.put.ensures.fits c.loop-j.invariant.2,
      word_put g.W.Stored.number (λ k n. n ≡ slice_index c.in-Some.bytes k * 2 ^ (8 * c.loop-i.i) + slice_index (map g.W.Stored.number c.loop-i.words) k) c.loop-j.words
          c.loop-j.j c.put.result within
          (c.put.ensures.put
          ∙ ap (λ (n : ℕ). slice_index c.in-Some.bytes c.loop-j.j * 2 ^ (8 * c.loop-i.i) + n)
          (word_at g.W.Stored.number c.loop-i.words c.loop-j.j c.index-before-j.result whole)) c.loop-j.invariant.3,
    )

pub loop-i-preserved : goal.loop-i-preserved
loop-i-preserved g c = (
  c.in-Some.ensures.goes.keeps,
  row_read g.B.Iterator.next_gives g.W.Stored.number g.row.N c.args.rows.now c.loop-i.i c.loop-i.words c.loop-j.words c.in-Some.bytes c.loop-i.rows
      c.next_row.new.rows c.loop-i.invariant.1 c.in-Some.ensures.steps (λ j within. c.loop-j.invariant.2 j (omega (arith, within, c.loop-j-test.false)))
      (λ j within. c.loop-j.invariant.3 j (omega (arith, within, c.loop-j-test.false))),
  (λ finite.
      let before = c.loop-i.invariant.2 finite in let step = c.in-Some.ensures.goes.on before.0 in (step.1, omega (arith, before.1, step.2))),
  c.loop-j.invariant.0,
)

pub returns-in-None : goal.returns-in-None
returns-in-None g c =
    let done = c.loop-i.invariant.1 in
    record {
      taken =
          few_taken g.B.Iterator.next_gives (IsWordRow g.row.N g.W.Stored.number c.loop-i.words) _ c.loop-i.rows done.taken c.loop-i.i g.W.LittleEndian.SIZE _ done.yields done.long done.are
          (omega (arith, c.loop-i-test.true, c.SIZE-i-end.ensures)) c.in-None.ensures.steps;
      goes_on = λ whole. absurd (omega (arith, whole, c.loop-i-test.true, c.SIZE-i-end.ensures));
      ends = few_left _ _ _ c.loop-i.i g.W.LittleEndian.SIZE (omega (arith, c.loop-i-test.true, c.SIZE-i-end.ensures)) c.loop-i.invariant.2;
    }

pub returns-clause-taken : goal.returns-clause-taken
returns-clause-taken g c =
    let done = c.loop-i.invariant.1 in
    all_taken g.B.Iterator.next_gives (IsWordRow g.row.N g.W.Stored.number c.loop-i.words) _ _ done.taken c.loop-i.i g.W.LittleEndian.SIZE _ done.yields done.long done.are
    (omega (arith, c.loop-i-test.false, c.loop-i.auto.i-end, c.SIZE-i-end.ensures)) c.SIZE.ensures
