-- Calls that take a subfield, once it is known whether there is one.
use Rattle.std.proofs.Common.{◌≡◌, ◌≢◌, ℕ, ◌%◌, refl, subst}
use Rattle.c_calls.specs.ChosenElements.{OverSubfield}
use Rattle.c_calls.specs.declared.status.TheConstants.{OK, UNSOLVABLE}

module _ {T : Type 0} (width degree : ℕ) {call : Type 0} {old : T} where
  -- there is none
  pub no-subfield : width % degree ≢ 0 → OverSubfield width degree call old old UNSOLVABLE
  no-subfield other = record { divides = λ is. absurd (other is); none = λ _. refl; kept = λ _. refl }

-- there is one, whose degree has another name
pub over-subfield : {T : Type 0} (width degree found : ℕ) (call : ℕ → Type 0) {old new : T} {status : ℕ} → found ≡ degree
    → width % found ≡ 0 → call found → (status ≢ OK → new ≡ old) → OverSubfield width degree (call degree) old new status
over-subfield width degree found call same divides made kept =
    record {
      divides = λ _. subst call same made;
      none = λ other. absurd (other (subst (λ (n : ℕ). width % n ≡ 0) same divides));
      kept = kept;
    }
