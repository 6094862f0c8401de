use Rattle.std.proofs.Common.{sym, ◌∙◌, rules}
use Rattle.transcripts.proofs.Outcomes.{call-stops, outcome-ok, outcome-stops}
use Rattle.transcripts.proofs.commitment.accepts.Goals as goal

pub returns-in_err-observe-clause-answer : goal.returns-in_err-observe-clause-answer
returns-in_err-observe-clause-answer g c =
    let going = sym c.failed.ensures ∙ c.if-failed.false in
    outcome-stops _ _ _ _ c.from_residual.result c.from_residual.ensures.1
    (λ error is. call-stops _ error is (c.in_err-observe.ensures.answer.memory going)) going

pub returns-in_err-works-clause-answer : goal.returns-in_err-works-clause-answer
returns-in_err-works-clause-answer g c =
    outcome-stops _ _ _ _ c.from_residual-in_err-works.result c.from_residual-in_err-works.ensures.1
    (λ error is. call-stops _ error is (c.in_err-works.ensures.answer.memory c.in_ok-observe.ensures.answer.goes_on))
    (sym c.failed.ensures ∙ c.if-failed.false)

pub returns-in_err-number-clause-answer : goal.returns-in_err-number-clause-answer
returns-in_err-number-clause-answer g c =
    outcome-stops _ _ _ _ c.from_residual-in_err-number.result c.from_residual-in_err-number.ensures.1
    (λ error is. call-stops _ error is (c.in_err-number.ensures.answer.memory c.in_ok-works.ensures.answer.goes_on))
    (sym c.failed.ensures ∙ c.if-failed.false)

pub returns-clause-verdict : goal.returns-clause-verdict
returns-clause-verdict g c = (
  c.in_ok-works.works,
  c.in_ok-number.number,
  (
    c.observe.new.self,
    c.check_witness.new.self,
    (c.statement_of-statement.result, c.statement_of-statement.ensures, c.in_ok-observe.ensures.ok),
    c.in_ok-works.ensures.passed,
    c.in_ok-works.ensures.state,
    c.in_ok-number.ensures.ok,
  ),
  search rules,
)

pub returns-clause-answer : goal.returns-clause-answer
returns-clause-answer g c = outcome-ok _ _ _ _ _ (sym c.failed.ensures ∙ c.if-failed.false) c.in_ok-number.ensures.answer.goes_on
