use Rattle.std.proofs.Common.{inl, inr, refl}
use Rattle.prove_sums.proofs.Refusals.{err-told, ok-told}
use Rattle.prove_sums.proofs.reports.info_report.Goals as goal

pub returns-in-Err : goal.returns-in-Err
returns-in-Err c =
    let told = err-told _ c.in_ok-proof.field-0 c.in-Err.refusal c.in-Err.is c.in_ok-proof.ensures.refused in
    inr (c.in_ok-report-in-Err.ensures.status, told.0, (c.in-Err.refusal, told.1, c.in_ok-report-in-Err.ensures.line))

pub returns : goal.returns
returns c =
    let proof = c.in-Ok.proof in
    inl (
      refl,
      (
        proof.roots.field,
        proof.shape.queries,
        proof.shape.rounds,
        proof.roots.left,
        proof.roots.right,
        proof.elements.items,
        proof.nodes.now,
        c.soundness_bits-bits.result,
        ok-told _ c.in_ok-proof.field-0 proof c.in-Ok.is c.in_ok-proof.ensures.whole,
        c.soundness_bits-bits.ensures.bits,
        c.soundness_bits-bits.ensures.sound,
        c.in_ok-line.ensures,
      ),
    )
