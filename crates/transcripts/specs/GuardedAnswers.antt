-- What a call of a challenger returns, by whether the challenger has failed.
use Rattle.std.specs.Prelude.{◌≡◌, Bool, true, false, Err, IfErr, OnErr, OnOk, Result}
use Rattle.transcripts.specs.declared.error.ChallengerError.{ChallengerError}
use Rattle.transcripts.specs.declared.error.ChallengerError.TheVariants.{Memory, Failed}

-- If the challenger had failed before, the call returns `Failed`. After an Ok the challenger has not failed, after an error it
-- has. The first error is `Memory`, and then the byte challenger below has refused a byte call. Where the challenger has not failed,
-- the byte challenger has refused none.
pub record GuardedAnswer {T : Type 0} (failed_before failed_after refused_after : Bool) (result : Result T ChallengerError) : Type 0 where
  pub failed : failed_before ≡ true → result ≡ Err Failed
  pub goes_on : OnOk result (failed_after ≡ false)
  pub fails : OnErr result (failed_after ≡ true)
  pub granted : failed_after ≡ false → refused_after ≡ false
  pub memory : failed_before ≡ false → IfErr result (λ error. (error ≡ Memory) × (refused_after ≡ true))
