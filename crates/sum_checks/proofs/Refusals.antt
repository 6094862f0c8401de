-- What a call in a transcript returns, by its exits, and what fits.
use Rattle.std.proofs.Common.{◌≡◌, ◌≢◌, inl, inr, ℕ, ◌*◌, ◌≤◌, Bool, true, false, List, [], ◌∷◌, Err, Ok, Result, sym, ◌∙◌, ap, subst, arith}
use Rattle.std.specs.Prelude.{IfErr, IsErrAnd, OnErr}
use Rattle.std.proofs.lemmas.Bool.{true≢false}
use Rattle.std.proofs.lemmas.Result.{err_from_is_err_and}
use Rattle.sum_checks.specs.Refusals.{CanBeStated, IsAnswer, VerifierRefuses}
use Rattle.sum_checks.specs.Terms.{AreWithin, Product, degree_of}
use Rattle.sum_checks.specs.declared.error.ProtocolError.{ProtocolError}
use Rattle.sum_checks.specs.declared.error.ProtocolError.TheVariants.{Length, Memory, Shape}

-- ---- exits

module _ {T : Type 0} (before after : Bool) (refuses : ProtocolError → Type 0) (kept : Type 0) where
  -- the operands are refused, with this error alone
  pub answer-refused : (error : ProtocolError) → before ≡ false → refuses error → ((other : ProtocolError) → refuses other → other ≡ error) → kept
      → IsAnswer {T = T} before after refuses kept (Err error)
  answer-refused error goes is only same = record {
    failed = λ fails. absurd (true≢false (sym fails ∙ goes));
    refused = λ _ other others. (ap Err (sym (only other others)), same);
    memory = λ _. inr is;
    goes_on = tt;
  }

  -- memory is refused
  pub answer-memory : {Q : ProtocolError → Type 0} (result : Result T ProtocolError) → IsErrAnd result Q
      → ((error : ProtocolError) → Q error → error ≡ Memory) → before ≡ false → ((error : ProtocolError) → refuses error → ⊥)
      → IsAnswer before after refuses kept result
  answer-memory result fails only goes fits =
      let error = err_from_is_err_and result fails in
      subst (λ (r : Result T ProtocolError). IsAnswer before after refuses kept r) (sym error.1) (record {
        failed = λ fails. absurd (true≢false (sym fails ∙ goes));
        refused = λ _ other others. absurd (fits other others);
        memory = λ _. inl (only error.0 error.2);
        goes_on = tt;
      })

  pub answer-ok : (value : T) → before ≡ false → ((error : ProtocolError) → refuses error → ⊥) → after ≡ false
      → IsAnswer before after refuses kept (Ok value)
  answer-ok value goes fits on = record {
    failed = λ fails. absurd (true≢false (sym fails ∙ goes));
    refused = λ _ other others. absurd (fits other others);
    memory = λ _. tt;
    goes_on = on;
  }

-- an error that is one of memory, since the call within failed with it
pub memory-told : {T : Type 0} {Q : ProtocolError → Type 0} (result : Result T ProtocolError) → IsErrAnd result Q
    → ((error : ProtocolError) → Q error → error ≡ Memory) → IfErr result (λ error. error ≡ Memory)
memory-told {T} result fails only =
    let error = err_from_is_err_and result fails in
    subst (λ (r : Result T ProtocolError). IfErr r (λ e. e ≡ Memory)) (sym error.1) (only error.0 error.2)

-- a result is no error
pub no-error : {T : Type 0} (value : T) (error : ProtocolError) → Ok value ≡ Err error → ⊥
no-error {T} value error same = subst (λ (r : Result T ProtocolError). OnErr r ⊥) same tt

-- ---- what fits

module _ (width rounds count : ℕ) (terms : List Product) where
  -- a verifier refuses no messages that are as long as they have to be, of a claim that it cannot be that it cannot be stated
  pub verifier-takes : (size : ℕ) → size ≡ rounds * degree_of terms → ((CanBeStated width rounds count terms → ⊥) → ⊥) → (error : ProtocolError)
      → VerifierRefuses width rounds count terms size error → ⊥
  verifier-takes size long can error (inl is) = is.1 long
  verifier-takes size long can error (inr is) = can is.2

  -- .. and has one error for others
  pub refused-length : (size : ℕ) → size ≢ rounds * degree_of terms → (error : ProtocolError) → VerifierRefuses width rounds count terms size error
      → error ≡ Length
  refused-length size other error (inl is) = is.0
  refused-length size other error (inr is) = absurd (other is.1)

  pub refused-shape : (size : ℕ) → size ≡ rounds * degree_of terms → (error : ProtocolError) → VerifierRefuses width rounds count terms size error
      → error ≡ Shape
  refused-shape size long error (inl is) = absurd (is.1 long)
  refused-shape size long error (inr is) = is.0

-- factors below a number are below a greater one
pub within-greater : (terms : List Product) (count most : ℕ) → count ≤ most → AreWithin count terms → AreWithin most terms
unfolding AreWithin
within-greater [] count most more within = tt
within-greater (term ∷ terms) count most more within =
    (λ k inside. let below = within.0 k inside in omega (arith, below, more), within-greater terms count most more within.1)
