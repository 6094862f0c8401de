use Rattle.std.proofs.Common.{List, ℕ, length, ap, arith, subst, sym}
use Rattle.std.proofs.lemmas.Result.{err_from_is_err_and}
use Rattle.secret.specs.Combining.{IsSecretOf}
use Rattle.secret.proofs.sharing.combined.Goals as goal

pub returns-in_err-marks-clause-refused : goal.returns-in_err-marks-clause-refused
returns-in_err-marks-clause-refused c =
    let failed = err_from_is_err_and c.from_residual-in_err-marks.result c.from_residual-in_err-marks.ensures.1 in
    rw (failed.1, failed.2)
    (λ other secret wrong long is.
    c.in_err-marks.ensures.refused secret wrong
    (let first = ap length c.as_slice-first.ensures.value in
    let zeros = ap length c.as_mut_slice.ensures.value in
    omega (arith, long, first, zeros, c.in_ok-secret.ensures))
    (subst (λ (l : List ℕ). IsSecretOf l c.as_slice-indexes.result.now c.as_slice.result.now secret wrong) (sym c.as_slice-first.ensures.value)
    (subst (λ (l : List ℕ). IsSecretOf c.args.shares.now.first.items l c.as_slice.result.now secret wrong) (sym c.as_slice-indexes.ensures.value)
    (subst (λ (l : List ℕ). IsSecretOf c.args.shares.now.first.items c.args.shares.now.indexes.items l secret wrong) (sym c.as_slice.ensures.value) is))))
