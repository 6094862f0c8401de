-- Each read joins what was done before it.
use Rattle.std.proofs.Common.{◌≡◌, ◌≢◌, ◌<◌, ◌≤◌, ℕ, ◌++◌, [], length, take, length-take, ◌∙◌, arith}
use Rattle.std.proofs.KnownBytes.{Consumes-nil, Consumes-trans}
use Rattle.std.proofs.lemmas.List.Elements.{All-nil}
use Rattle.calculator.specs.Watched.{watched_inner}
use Rattle.calculator.specs.declared.error.RunError.{RunError}
use Rattle.calculator.specs.declared.error.RunError.TheVariants.{Memory}
use Rattle.calculator.proofs.ProgressLemmas.{OnErr-from, IfErr-from, IfErr-given, GaveSome-next, AnswersLines-none, Answers-last, AnswersLines-next, AnswersFront-next, AnswersFront-kept, AnswersWhole-next}
use Rattle.calculator.proofs.engine.run.Goals as goal

pub reads-init : goal.reads-init
reads-init g c = record {
  answered = ([], Consumes-nil _, rw (c.new-outbox.ensures, c.new-line.ensures.items) (AnswersLines-none _ [] []));
  is_line = rw c.new-line.ensures.items (All-nil (λ (b : ℕ). b ≢ 10));
  room = omega arith;
  reader_passed = c.requires.reader;
  writer_passed = c.requires.writer;
}

pub returns-in-Ok-eq0-clause-ok : goal.returns-in-Ok-eq0-clause-ok
returns-in-Ok-eq0-clause-ok g c =
    let so_far = c.reads.invariant.answered in
    (Answers-last _ (g.R.Read.remaining (watched_inner c.reads.reader)) so_far.0 c.reads.line.items _ so_far.1 so_far.2 _ _ c.finish.result _ _ _ c.in-Ok-eq0.field-0-test c.in-Ok-eq0.ensures.bytes (omega arith) c.as_slice.ensures.value c.finish.ensures.ok c.finish.ensures.err).0

pub returns-in-Ok-eq0-clause-err : goal.returns-in-Ok-eq0-clause-err
returns-in-Ok-eq0-clause-err g c =
    let so_far = c.reads.invariant.answered in
    (Answers-last _ (g.R.Read.remaining (watched_inner c.reads.reader)) so_far.0 c.reads.line.items _ so_far.1 so_far.2 _ _ c.finish.result _ _ _ c.in-Ok-eq0.field-0-test c.in-Ok-eq0.ensures.bytes (omega arith) c.as_slice.ensures.value c.finish.ensures.ok c.finish.ensures.err).1

pub reads-preserved : goal.reads-preserved
reads-preserved g c =
    let so_far = c.reads.invariant.answered in
    let fed = c.in_ok-answer_lines-in-Ok.ensures in
    let chunk = take c.in-Ok.count c.read.new.buf in
    record {
      answered = (so_far.0 ++ chunk, Consumes-trans _ _ _ so_far.0 chunk so_far.1 c.in-Ok.ensures.bytes.0, AnswersLines-next chunk so_far.2 fed.ok);
      is_line = fed.line;
      room = omega arith;
      reader_passed = c.in-Ok.ensures.passed ∙ c.reads.invariant.reader_passed;
      writer_passed = fed.failed.1;
    }

pub returns-in_err-answer_lines-in-Ok-clause-err : goal.returns-in_err-answer_lines-in-Ok-clause-err
returns-in_err-answer_lines-in-Ok-clause-err g c =
    let so_far = c.reads.invariant.answered in
    let fed = c.in_err-answer_lines-in-Ok.ensures.err in
    OnErr-from _ _ (AnswersFront-next _ (g.R.Read.remaining (watched_inner c.reads.reader)) so_far.0 c.reads.line.items _ so_far.1 so_far.2 _ _ c.in-Ok.ensures.bytes.0 fed.2)

pub returns-in_err-answer_lines-in-Ok-clause-memory : goal.returns-in_err-answer_lines-in-Ok-clause-memory
returns-in_err-answer_lines-in-Ok-clause-memory g c =
    let so_far = c.reads.invariant.answered in
    let some : 0 < length (take c.in-Ok.count c.read.new.buf) = omega (arith, length-take c.in-Ok.count c.read.new.buf, c.in-Ok.ensures.bound) in
    IfErr-from (λ (fault : RunError). fault ≡ Memory) _ _
    (GaveSome-next _ (g.R.Read.remaining (watched_inner c.reads.reader)) so_far.0 c.reads.line.items _ so_far.1 so_far.2 _ _ c.in-Ok.ensures.bytes.0 some)

pub returns-in_err-answer_lines-in-Ok-clause-told : goal.returns-in_err-answer_lines-in-Ok-clause-told
returns-in_err-answer_lines-in-Ok-clause-told g c =
    let so_far = c.reads.invariant.answered in
    let few : length (take c.in-Ok.count c.read.new.buf) ≤ 8192 = omega (arith, length-take c.in-Ok.count c.read.new.buf, c.in-Ok.ensures.bound) in
    IfErr-given Memory c.in_err-answer_lines-in-Ok.field-0.0 c.from_residual.result c.from_residual.ensures.1 (λ is.
    AnswersWhole-next _ (g.R.Read.remaining (watched_inner c.reads.reader)) so_far.0 c.reads.line.items _ so_far.1 so_far.2 _ _ 8192
    c.in-Ok.ensures.bytes.0 few (c.in_err-answer_lines-in-Ok.ensures.memory is))

pub returns-in-Err-clause-err : goal.returns-in-Err-clause-err
returns-in-Err-clause-err g c =
    let so_far = c.reads.invariant.answered in
    AnswersFront-kept _ (g.R.Read.remaining (watched_inner c.reads.reader)) so_far.0 c.reads.line.items _ so_far.1 so_far.2 _ c.in-Err.ensures.bytes
