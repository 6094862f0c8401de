use Rattle.std.proofs.Common.{ℕ, length, string_bytes, sym, ◌∙◌, ap}
use Rattle.prove_sums.specs.Reports.{sum_line}
use Rattle.prove_sums.proofs.Exits.{accepted-report, err-of, ok-of, refused-memory, refused-report}
use Rattle.prove_sums.proofs.Refusals.{ok-told}
use Rattle.prove_sums.proofs.reports.verify_report.Goals as goal

pub returns-in-Err-clause-error : goal.returns-in-Err-clause-error
returns-in-Err-clause-error g c = err-of _ _ c.in-Err.ensures

pub returns-in-Err-root_from-clause-error : goal.returns-in-Err-root_from-clause-error
returns-in-Err-root_from-clause-error g c = (ok-of _ _ c.in-Ok.ensures, err-of _ _ c.in-Err-root_from.ensures)

pub returns-in_err-report-in-Err-answer-clause-error : goal.returns-in_err-report-in-Err-answer-clause-error
returns-in_err-report-in-Err-answer-clause-error g c =
    refused-memory c.args.left.now c.args.right.now _ c.from_residual.ensures.1 (λ error is. is)

pub returns-in_err-report-clause-error : goal.returns-in_err-report-clause-error
returns-in_err-report-clause-error g c =
    refused-memory c.args.left.now c.args.right.now _ c.from_residual-in_err-report.ensures.1 (λ error is. is)

pub returns-in-Err-answer-clause-report : goal.returns-in-Err-answer-clause-report
returns-in-Err-answer-clause-report g c =
    let report = c.in_ok-report-in-Err-answer.report in
    refused-report g.H.ByteHasher32.digest c.args.hasher.now c.args.bits c.args.field c.args.left.now c.args.right.now c.in-Ok.root c.in-Ok-root_from.root
    c.args.bytes.now (sym c.in-Ok.ensures) (sym c.in-Ok-root_from.ensures) c.in-Ok-answer_to.answer c.in-Ok-answer_to.ensures.answer
    (string_bytes report.line) report.status c.in-Err-answer.refusal c.in-Err-answer.is c.in_ok-report-in-Err-answer.ensures.line
    c.in_ok-report-in-Err-answer.ensures.status

pub returns-clause-report : goal.returns-clause-report
returns-clause-report g c =
    let report = c.in_ok-report.report in
    let proof = c.in-Ok-answer.proof in
    accepted-report g.H.ByteHasher32.digest c.args.hasher.now c.args.bits c.args.field c.args.left.now c.args.right.now c.in-Ok.root c.in-Ok-root_from.root
    c.args.bytes.now (sym c.in-Ok.ensures) (sym c.in-Ok-root_from.ensures) c.in-Ok-answer_to.answer c.in-Ok-answer_to.ensures.answer
    (string_bytes report.line) report.status proof c.in-Ok-answer.is (
      c.in_ok-report.ensures.status,
      (
        proof.shape.queries,
        proof.shape.rounds,
        proof.elements.items,
        proof.nodes.now,
        ok-told _ c.in-Ok-answer_to.answer proof c.in-Ok-answer.is c.in-Ok-answer_to.ensures.proof,
        c.in_ok-report.ensures.line ∙ ap (λ (s : ℕ). sum_line s (length c.args.bytes.now)) c.sum.ensures,
      ),
    )
