-- Each line feed that is found ends one line more.
use Rattle.std.proofs.Common.{◌≡◌, ◌≢◌, ℕ, ◌+◌, ◌-◌, List, ◌++◌, drop, arith, refl}
use Rattle.std.proofs.lemmas.List.{take_rest}
use Rattle.std.proofs.lemmas.List.Elements.{All-nil, All-append}
use Rattle.std.proofs.lemmas.Result.{IfErr-weaker}
use Rattle.calculator.specs.Outbox.{waiting}
use Rattle.calculator.specs.Progress.{AnswersLines}
use Rattle.calculator.specs.declared.error.RunError.TheVariants.{Memory}
use Rattle.calculator.proofs.FoundLemmas.{IsLine-none, IsLine-ended, cut_ended, ended_within}
use Rattle.calculator.proofs.ProgressLemmas.{OnErr-from, OnOk-never, IfErr-given, AnswersLines-none, AnswersLines-front_left, AnswersLines-line, AnswersLines-trans, LeavesLines-refused}
use Rattle.calculator.proofs.engine.answer_lines.Goals as goal

pub lines-init : goal.lines-init
lines-init g c = record {
  within = omega arith;
  answered = AnswersLines-none _ _ _;
  is_line = c.requires.line;
  passed = c.requires.writer;
}

pub returns-in_err-end_line-clause-err : goal.returns-in_err-end_line-clause-err
returns-in_err-end_line-clause-err g c =
    let front = c.in_err-end_line.ensures.err in
    OnErr-from ((left rest : List ℕ) × AnswersLines _ _ (waiting c.args.outbox.now) left (c.args.line.now.items ++ c.args.chunk.now) rest) _
    (front.0, _, AnswersLines-front_left c.lines.invariant.answered front.1)

pub lines-preserved : goal.lines-preserved
lines-preserved g c =
    let chunk = c.args.chunk.now in
    let start = c.lines.start in
    let len = c.in-Some.len in
    let count : start + len - start ≡ len = omega arith in
    let rest = drop (start + (len + 1)) chunk in
    let is_line = IsLine-ended chunk c.lines.line.items _ _ start len _ (take_rest chunk start) refl count c.in-Some.ensures c.lines.invariant.is_line in
    let cut = cut_ended chunk c.lines.line.items _ _ start len _ (take_rest chunk start) refl count c.in-Some.ensures c.lines.invariant.is_line in
    let ended = AnswersLines-line _ rest is_line c.in_ok-end_line.ensures.ok in
    record {
      within = ended_within chunk c.lines.line.items _ _ start len _ (take_rest chunk start) refl count c.in-Some.ensures c.lines.invariant.is_line;
      answered = rw c.in_ok-end_line.ensures.empty (AnswersLines-trans (rw cut at c.lines.invariant.answered) ended);
      is_line = rw c.in_ok-end_line.ensures.empty (All-nil (λ (b : ℕ). b ≢ 10));
      passed = c.in_ok-end_line.ensures.failed.1;
    }

pub returns-in-Ok-clause-line : goal.returns-in-Ok-clause-line
returns-in-Ok-clause-line g c =
    let rest = IsLine-none _ (rw c.in_default.is at c.memchr.ensures) in
    rw c.in-Ok.ensures.items (All-append (λ (b : ℕ). b ≢ 10) c.lines.line.items _ c.lines.invariant.is_line rest)

pub returns-in_err-end_line-clause-memory : goal.returns-in_err-end_line-clause-memory
returns-in_err-end_line-clause-memory g c =
    IfErr-given Memory c.in_err-end_line.field-0.0 c.from_residual.result c.from_residual.ensures.1 (λ is.
    LeavesLines-refused _ c.lines.line.items c.args.chunk.now c.lines.start c.lines.invariant.is_line c.lines.invariant.answered
    (c.in_err-end_line.ensures.memory is))

pub returns-in-Err-clause-ok : goal.returns-in-Err-clause-ok
returns-in-Err-clause-ok g c = OnOk-never _ c.refuse.result c.refuse.ensures.refused

pub returns-in-Err-clause-line : goal.returns-in-Err-clause-line
returns-in-Err-clause-line g c = OnOk-never _ c.refuse.result c.refuse.ensures.refused

pub returns-in-Err-clause-err : goal.returns-in-Err-clause-err
returns-in-Err-clause-err g c =
    let front = c.refuse.ensures.front in
    OnErr-from ((left rest : List ℕ) × AnswersLines _ _ (waiting c.args.outbox.now) left (c.args.line.now.items ++ c.args.chunk.now) rest) _
    (front.0, _, AnswersLines-front_left c.lines.invariant.answered front.1)

pub returns-in-Err-clause-memory : goal.returns-in-Err-clause-memory
returns-in-Err-clause-memory g c =
    IfErr-weaker c.refuse.result _ _ (λ fault told is.
    LeavesLines-refused _ c.lines.line.items c.args.chunk.now c.lines.start c.lines.invariant.is_line c.lines.invariant.answered (told is))
    c.refuse.ensures.memory
