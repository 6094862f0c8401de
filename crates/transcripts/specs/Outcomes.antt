-- What a call of a prover or of a verifier in a transcript returns.
use Rattle.std.specs.Prelude.{◌≡◌, Bool, true, false, Err, IfErr, OnOk, Result}
use Rattle.transcripts.specs.declared.error.GrindError.{GrindError}
use Rattle.transcripts.specs.declared.error.GrindError.TheVariants.{Failed}

-- Of a call in a transcript that had failed before, or had not: `Failed` if it had, and what is called is then as
-- before; else a result, or an error that is allowed. After a result the transcript has not failed.
pub record IsOutcome {T : Type 0} (failed_before failed_after : Bool) (allowed : GrindError → Type 0) (kept : Type 0)
    (result : Result T GrindError) : Type 0 where
  pub failed : failed_before ≡ true → (result ≡ Err Failed) × kept
  pub errors : failed_before ≡ false → IfErr result allowed
  pub goes_on : OnOk result (failed_after ≡ false)
