-- The loop over the elements of the bytes.
use Rattle.std.proofs.Common.{◌≡◌, ◌<◌, ◌%◌, ◌^◌, ◌∙◌, ℕ, ap, arith, get_or, length, min, subst, sym}
use Rattle.std.proofs.lemmas.Bool.{false≢true}
use Rattle.field_bytes.specs.Bytes.{number_of_bytes}
use Rattle.transcripts.proofs.GuardedLemmas.{on_err}
use Rattle.transcript_elements.proofs.SeedLemmas.{absorbed_all, absorbed_more, absorbed_none, absorbed_part, Absorbed, fits-drop}
use Rattle.transcript_elements.proofs.seeds.observe_padded.Goals as goal

pub elements-init : goal.elements-init
elements-init g c = record { goes_on = c.requires; fits = λ k. omega (arith, c.type_inv.bytes k); seen = absorbed_none _ _ _ _ _ }

pub returns-in_err-observe-clause-err : goal.returns-in_err-observe-clause-err
returns-in_err-observe-clause-err g c =
    on_err c.from_residual.result
    (absorbed_part g.F.RawDataSerializable.NUM_BYTES g.F.Represented.repr g.C.CanObserve.observes c.args.bytes.now
    c.args.challenger.now g.C.CanObserve.may_leave c.elements.rest.now c.elements.challenger
    c.observe.new.self c.elements.invariant.seen c.elements-test.true c.in_err-observe.ensures.err)

pub elements-preserved : goal.elements-preserved
elements-preserved g c =
    let size = g.F.RawDataSerializable.NUM_BYTES in
    let taken : c.min.result ≡ min size (length c.elements.rest.now) = c.min.ensures ∙ ap (λ n. min n (length c.elements.rest.now)) c.NUM_BYTES-size.ensures in
    record {
      goes_on = c.in_ok-observe.ensures.answer.goes_on;
      fits =
          subst (λ left. (k : ℕ) → get_or left k 0 < 256) (sym c.split_at.ensures.back)
          (fits-drop c.min.result c.elements.rest.now c.elements.invariant.fits);
      seen =
          subst (λ left. Absorbed size g.F.Represented.repr g.C.CanObserve.observes c.args.bytes.now left
          c.args.challenger.now c.observe.new.self) (sym c.split_at.ensures.back)
          (absorbed_more size g.F.Represented.repr g.C.CanObserve.observes c.args.bytes.now c.args.challenger.now
          g.F.Represented.width c.min.result c.elements.rest.now c.of_low_first.result c.elements.challenger
          c.observe.new.self c.elements.invariant.seen c.elements-test.true taken
          g.met.F.TranscriptField.whole_law c.elements.invariant.fits
          (c.of_low_first.ensures ∙ ap (λ bs. number_of_bytes bs % 2 ^ g.F.Represented.width) c.split_at.ensures.front) c.in_ok-observe.ensures.ok);
    }

pub returns-clause-ok : goal.returns-clause-ok
returns-clause-ok g c =
    absorbed_all _ _ _ _ _ c.elements.rest.now _ c.elements.invariant.seen (omega (arith, c.elements-test.false))

pub returns-clause-answer : goal.returns-clause-answer
returns-clause-answer g c = record {
  failed = λ failed. absurd (false≢true failed);
  goes_on = c.elements.invariant.goes_on;
  fails = tt;
  granted = g.met.C.Transcript.refused_law c.elements.challenger;
  memory = λ _. tt;
}
