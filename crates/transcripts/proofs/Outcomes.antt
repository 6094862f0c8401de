-- What a call in a transcript returns, by its exits.
use Rattle.std.proofs.Common.{◌≡◌, ℕ, Bool, false, Ok, Result, sym, ◌∙◌, ap, subst}
use Rattle.std.specs.Prelude.{IsErrAnd}
use Rattle.std.proofs.lemmas.Bool.{true≢false}
use Rattle.std.proofs.lemmas.Result.{err_from_is_err_and}
use Rattle.transcripts.specs.declared.error.ChallengerError.{ChallengerError}
use Rattle.transcripts.specs.declared.error.ChallengerError.TheVariants as challenger_error
use Rattle.transcripts.specs.Grinding.{error_of, FailsSearch}
use Rattle.transcripts.specs.declared.error.GrindError.{GrindError}
use Rattle.transcripts.specs.declared.error.GrindError.TheVariants.{Memory}
use Rattle.transcripts.specs.Outcomes.{IsOutcome}

module _ {T : Type 0} (before after : Bool) (allowed : GrindError → Type 0) (kept : Type 0) where
  -- a call within fails, with an error that is allowed
  pub outcome-stops : {Q : GrindError → Type 0} (result : Result T GrindError) → IsErrAnd result Q
      → ((error : GrindError) → Q error → allowed error) → before ≡ false → IsOutcome before after allowed kept result
  outcome-stops result fails may goes =
      let error = err_from_is_err_and result fails in
      subst (λ (r : Result T GrindError). IsOutcome before after allowed kept r) (sym error.1) (record {
        failed = λ fails. absurd (true≢false (sym fails ∙ goes));
        errors = λ _. may error.0 error.2;
        goes_on = tt;
      })

  pub outcome-ok : (value : T) → before ≡ false → after ≡ false → IsOutcome before after allowed kept (Ok value)
  outcome-ok value goes on = record {
    failed = λ fails. absurd (true≢false (sym fails ∙ goes));
    errors = λ _. tt;
    goes_on = on;
  }

-- why a call of a challenger stops a prover or a verifier, with what else is known of the call
pub call-stops : {P : Type 0} (refusal : ChallengerError) (error : GrindError) → error ≡ error_of refusal
    → (refusal ≡ challenger_error.Memory) × P → (error ≡ Memory) × P
call-stops refusal error same is = (same ∙ ap error_of is.0, is.1)

-- .. and why a search does
pub search-stops : (passing : ℕ → Bool) (width : ℕ) (refusal error : GrindError) → error ≡ refusal → FailsSearch passing width refusal
    → FailsSearch passing width error
search-stops passing width refusal error same fails = subst (FailsSearch passing width) (sym same) fails
