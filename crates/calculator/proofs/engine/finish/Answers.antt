-- What was left, and the answer to the last line, are written at the end: no byte is no line, and bytes with no line feed are one.
use Rattle.std.proofs.Common.{◌≡◌, ◌<◌, arith, append-nil, length, sym}
use Rattle.std.proofs.lemmas.Bool.{eqb-true, eqb-false}
use Rattle.std.proofs.lemmas.Result.{on_ok_weaker, on_err_weaker}
use Rattle.calculator.specs.Lines.{answers}
use Rattle.calculator.proofs.LineLemmas.{answers-none, answers-last}
use Rattle.calculator.proofs.ProgressLemmas.{OnErr-from, GainsFront-more, GainsFront-left, TakesFront-left}
use Rattle.calculator.proofs.engine.finish.Goals as goal

pub returns-then-is_empty-clause-ok : goal.returns-then-is_empty-clause-ok
returns-then-is_empty-clause-ok g c =
    let none : length c.args.line.now ≡ 0 = eqb-true _ 0 (sym c.if-is_empty.ensures) in
    rw (answers-none c.args.line.now none, append-nil) c.write_out.ensures.ok

pub returns-then-is_empty-clause-err : goal.returns-then-is_empty-clause-err
returns-then-is_empty-clause-err g c =
    let none : length c.args.line.now ≡ 0 = eqb-true _ 0 (sym c.if-is_empty.ensures) in
    rw (answers-none c.args.line.now none, append-nil) c.write_out.ensures.err

pub returns-in_err-answer_line-clause-err : goal.returns-in_err-answer_line-clause-err
returns-in_err-answer_line-clause-err g c =
    OnErr-from _ _ (GainsFront-more (answers c.args.line.now) c.in_err-answer_line.ensures.err)

pub returns-clause-ok : goal.returns-clause-ok
returns-clause-ok g c =
    let some = eqb-false (length c.args.line.now) 0 (sym c.if-is_empty.ensures) in
    let more : 0 < length c.args.line.now = omega arith in
    rw (answers-last c.args.line.now c.requires.line more)
    (on_ok_weaker c.write_out-2.result (λ appended. TakesFront-left _ c.in_ok-answer_line.ensures.ok appended) c.write_out-2.ensures.ok)

pub returns-clause-err : goal.returns-clause-err
returns-clause-err g c =
    let some = eqb-false (length c.args.line.now) 0 (sym c.if-is_empty.ensures) in
    let more : 0 < length c.args.line.now = omega arith in
    rw (answers-last c.args.line.now c.requires.line more)
    (on_err_weaker c.write_out-2.result (λ front. GainsFront-left c.in_ok-answer_line.ensures.ok front) c.write_out-2.ensures.err)
