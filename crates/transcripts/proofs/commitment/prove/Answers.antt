use Rattle.std.proofs.Common.{ℕ, List, ◌%◌, inl, sym, ◌∙◌, ap, ap₂}
use Rattle.transcripts.specs.Commitments.{root_of}
use Rattle.transcripts.specs.Runs.{statement_bytes}
use Rattle.transcripts.proofs.OpeningTurns.{prover-stops}
use Rattle.transcripts.proofs.Outcomes.{call-stops, outcome-ok, outcome-stops, search-stops}
use Rattle.transcripts.proofs.commitment.prove.Goals as goal

pub returns-in_err-observe-clause-answer : goal.returns-in_err-observe-clause-answer
returns-in_err-observe-clause-answer g c =
    let going = sym c.failed.ensures ∙ c.if-failed.false in
    outcome-stops _ _ _ _ c.from_residual.result c.from_residual.ensures.1
    (λ error is. inl (call-stops _ error is (c.in_err-observe.ensures.answer.memory going)).0) going

pub returns-in_err-witness-clause-answer : goal.returns-in_err-witness-clause-answer
returns-in_err-witness-clause-answer g c =
    let bytes =
    c.statement_of-statement.ensures
    ∙ ap₂ (λ (d : ℕ) (root : List ℕ). statement_bytes d c.args.bits root) c.commitment.ensures.depth c.commitment.ensures.held in
    outcome-stops _ _ _ _ c.from_residual-in_err-witness.result c.from_residual-in_err-witness.ensures.1
    (λ error is. prover-stops g.C.CanObserve.observes g.C.GrindingChallenger.passing g.C.GrindingChallenger.witness_bits c.args.tree.now.depth
    c.args.bits (root_of c.args.tree.now) c.args.challenger.now c.observe.new.self error (c.statement_of-statement.result, bytes, c.in_ok-observe.ensures.ok)
    (search-stops _ _ _ error is (c.in_err-witness.ensures.err c.in_ok-observe.ensures.answer.goes_on)))
    (sym c.failed.ensures ∙ c.if-failed.false)

pub returns-in_err-number-clause-answer : goal.returns-in_err-number-clause-answer
returns-in_err-number-clause-answer g c =
    outcome-stops _ _ _ _ c.from_residual-in_err-number.result c.from_residual-in_err-number.ensures.1
    (λ error is. inl (call-stops _ error is (c.in_err-number.ensures.answer.memory c.in_ok-witness.ensures.goes_on)).0)
    (sym c.failed.ensures ∙ c.if-failed.false)

pub returns-in_err-path-clause-answer : goal.returns-in_err-path-clause-answer
returns-in_err-path-clause-answer g c =
    outcome-stops _ _ _ _ c.from_residual-in_err-path.result c.from_residual-in_err-path.ensures.1 (λ error is. inl is)
    (sym c.failed.ensures ∙ c.if-failed.false)

pub returns-clause-opened : goal.returns-clause-opened
returns-clause-opened g c =
    let bytes =
    c.statement_of-statement.ensures
    ∙ ap₂ (λ (d : ℕ) (root : List ℕ). statement_bytes d c.args.bits root) c.commitment.ensures.depth c.commitment.ensures.held in (
      c.in_ok-number.number,
      (
        c.observe.new.self,
        c.grind.new.self,
        (c.statement_of-statement.result, bytes, c.in_ok-observe.ensures.ok),
        sym c.in_ok-witness.ensures.least.passes,
        c.in_ok-witness.ensures.state,
        c.in_ok-number.ensures.ok,
      ),
      ap (λ (n : ℕ). c.in_ok-number.number % n) c.requires.count,
    )

pub returns-clause-path : goal.returns-clause-path
returns-clause-path g c = λ hash holds. c.in_ok-path.ensures.words hash c.args.words.now holds

pub returns-clause-answer : goal.returns-clause-answer
returns-clause-answer g c = outcome-ok _ _ _ _ _ (sym c.failed.ensures ∙ c.if-failed.false) c.in_ok-number.ensures.answer.goes_on
