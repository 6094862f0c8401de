-- What is printed for a file.
use Rattle.std.proofs.Common.{◌≡◌, ℕ, Err, Ok, Result, List, sym, ◌∙◌, ap, refl, subst}
use Rattle.std.specs.Prelude.{IfErr, IsErr, IsErrAnd, IsOk, None, Some}
use Rattle.std.proofs.lemmas.Result.{err_from_is_err_and}
use Rattle.field_element.specs.Element.{repr_of}
use Rattle.prove_sums.specs.ProofFiles.{number_in}
use Rattle.prove_sums.specs.Reports.{HasNoAnswer, IsVerifyReport, NamesRoot, SaysAnswer, claim_text, refusal_line}
use Rattle.prove_sums.specs.Verdicts.{IsWordAnswer, refusal_in}
use Rattle.prove_sums.specs.declared.refusal.Refusal.{Refusal}
use Rattle.prove_sums.specs.declared.reports.NoAnswer.{NoAnswer}
use Rattle.prove_sums.specs.declared.reports.NoAnswer.TheVariants as no_answer
use Rattle.prove_sums.specs.declared.tables.Table.{Table}
use Rattle.prove_sums.specs.declared.tables.TableField.{TableField}

-- a result that is told by another
pub err-of : {T E : Type 0} (told : Result T E) (error : E) → Err error ≡ told → IsErr told
err-of {T} {E} told error is = subst (λ (r : Result T E). IsErr r) is refl

pub ok-of : {T E : Type 0} (told : Result T E) (value : T) → Ok value ≡ told → IsOk told
ok-of {T} {E} told value is = subst (λ (r : Result T E). IsOk r) is refl

-- memory is refused
pub refused-memory : {T : Type 0} {Q : NoAnswer → Type 0} (left right : List ℕ) (result : Result T NoAnswer) → IsErrAnd result Q
    → ((error : NoAnswer) → Q error → error ≡ no_answer.Memory) → IfErr result (λ error. HasNoAnswer left right error)
refused-memory {T} left right result fails only =
    let error = err_from_is_err_and result fails in
    subst (λ (r : Result T NoAnswer). IfErr r (λ e. HasNoAnswer left right e)) (sym error.1)
    (subst (λ (e : NoAnswer). HasNoAnswer left right e) (sym (only error.0 error.2)) tt)

module _ {T H : Type 0} (digest : H → List ℕ → List ℕ) (hasher : H) (bits : ℕ) (field : TableField) (left right left_root right_root bytes : List ℕ)
    (left_named : NamesRoot left left_root) (right_named : NamesRoot right right_root) (answer : Result T Refusal)
    (told : IsWordAnswer digest hasher bits field left_root right_root bytes (refusal_in answer)) (line : List ℕ) (status : ℕ) where
  pub refused-report : (refusal : Refusal) → answer ≡ Err refusal → line ≡ refusal_line refusal → status ≡ 1
      → IsVerifyReport digest hasher bits field left right bytes line status
  refused-report refusal is said one = record {
    left_root = left_root;
    right_root = right_root;
    refusal = Some refusal;
    left_named = left_named;
    right_named = right_named;
    answered = subst (λ (a : Result T Refusal). IsWordAnswer digest hasher bits field left_root right_root bytes (refusal_in a)) is told;
    said = (one, said);
  }

  pub accepted-report : (proof : T) → answer ≡ Ok proof
      → SaysAnswer (number_in (λ (table : Table). table.elements.items) repr_of) field left_root right_root bytes None line status
      → IsVerifyReport digest hasher bits field left right bytes line status
  accepted-report proof is said = record {
    left_root = left_root;
    right_root = right_root;
    refusal = None;
    left_named = left_named;
    right_named = right_named;
    answered = subst (λ (a : Result T Refusal). IsWordAnswer digest hasher bits field left_root right_root bytes (refusal_in a)) is told;
    said = said;
  }

-- ---- what is said of a proof

pub claim-same : (n : ℕ) (name left right sum called one other total : List ℕ) → name ≡ called → left ≡ one → right ≡ other → sum ≡ total
    → claim_text name n left right sum ≡ claim_text called n one other total
claim-same n name left right sum called one other total name_is left_is right_is sum_is =
    ap (λ (l : List ℕ). claim_text l n left right sum) name_is ∙ ap (λ (l : List ℕ). claim_text called n l right sum) left_is
    ∙ ap (λ (l : List ℕ). claim_text called n one l sum) right_is ∙ ap (claim_text called n one other) sum_is
