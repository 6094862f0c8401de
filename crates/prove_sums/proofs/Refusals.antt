-- What is answered, by how far a file of a proof was read.
use Rattle.std.proofs.Common.{◌≡◌, ◌≢◌, ℕ, Bool, Ok, Err, List, [], inl, inr, sym, subst}
use Rattle.std.specs.Prelude.{Some}
use Rattle.std.specs.Result.{IfErr, IfOk}
use Rattle.std.specs.declared.result.Result.{Result}
use Rattle.prove_sums.specs.ProofFiles.{IsFileOf, IsNoFile, IsReadRefusal, file_bytes}
use Rattle.prove_sums.specs.Bits.{AreFor}
use Rattle.prove_sums.specs.Verdicts.{HasVerdict, IsAnswerTo, IsSizeRefusal, IsSumVerdict}
use Rattle.prove_sums.specs.declared.tables.TableField.{TableField}
use Rattle.prove_sums.specs.declared.refusal.Refusal.{Refusal}
use Rattle.prove_sums.specs.declared.refusal.Refusal.TheVariants.{NotAProof, OtherVersion, OtherField, Length, OtherParameters, TooFewBits, OtherLeft, OtherRight, NotProved}

-- what is said of an error, and of a value, is said of the one there is
pub err-told : {X R : Type 0} (says : R → Type 0) (told : Result X R) (refusal : R) → told ≡ Err refusal → IfErr told says → says refusal
err-told {X} {R} says told refusal is has = subst (λ (r : Result X R). IfErr r says) is has

pub ok-told : {X R : Type 0} (says : X → Type 0) (told : Result X R) (read : X) → told ≡ Ok read → IfOk told says → says read
ok-told {X} {R} says told read is has = subst (λ (r : Result X R). IfOk r says) is has

module _ {F H : Type 0} (digest : H → List ℕ → List ℕ) (hasher : H) (repr : F → ℕ) (bits : ℕ) (field : TableField) (left right bytes : List ℕ) where
  -- bytes that were not read
  pub unread : (refusal : Refusal) → IsNoFile repr bytes → IsReadRefusal refusal bytes → IsAnswerTo digest hasher repr bits field left right bytes (Some refusal)
  unread NotAProof none is = none
  unread OtherVersion none is = none
  unread OtherField none is = inl none
  unread Length none is = none
  unread OtherParameters none is = absurd is
  unread TooFewBits none is = absurd is
  unread OtherLeft none is = absurd is
  unread OtherRight none is = absurd is
  unread NotProved none is = absurd is

  module _ (f : TableField) (m n : ℕ) (one other : List ℕ) (elements : List F) (nodes : List (List ℕ))
      (file : IsFileOf repr bytes f m n one other elements nodes) where
    -- another field
    pub other-field : (refusal : Refusal) → (refusal ≡ OtherField) × (f ≢ field)
        → IsAnswerTo digest hasher repr bits field left right bytes (Some refusal)
    other-field refusal is =
        subst (λ (r : Refusal). IsAnswerTo digest hasher repr bits field left right bytes (Some r)) (sym is.0)
        (inr (f, m, n, one, other, elements, nodes, file, is.1))

    module _ (same : f ≡ field) where
      named : IsFileOf repr bytes field m n one other elements nodes
      named = subst (λ (v : TableField). IsFileOf repr bytes v m n one other elements nodes) same file

      -- sizes that are not those for the bits
      pub missized : (refusal : Refusal) → IsSizeRefusal bits m n refusal → IsAnswerTo digest hasher repr bits field left right bytes (Some refusal)
      missized OtherParameters is = (m, n, one, other, elements, nodes, named, is)
      missized TooFewBits is = (m, n, one, other, elements, nodes, named, is)
      missized NotAProof is = absurd is
      missized OtherVersion is = absurd is
      missized OtherField is = absurd is
      missized Length is = absurd is
      missized OtherLeft is = absurd is
      missized OtherRight is = absurd is
      missized NotProved is = absurd is

      -- another root
      pub other-left : one ≢ left → IsAnswerTo digest hasher repr bits field left right bytes (Some OtherLeft)
      other-left is = (m, n, one, other, elements, nodes, named, is)

      pub other-right : one ≡ left → other ≢ right → IsAnswerTo digest hasher repr bits field left right bytes (Some OtherRight)
      other-right is_left is =
          (m, n, other, elements, nodes, subst (λ (l : List ℕ). IsFileOf repr bytes field m n l other elements nodes) is_left named, is)

      -- the same roots
      pub file-at : one ≡ left → other ≡ right → IsFileOf repr bytes field m n left right elements nodes
      file-at is_left is_right =
          subst (λ (l : List ℕ). IsFileOf repr bytes field m n l right elements nodes) is_left
          (subst (λ (r : List ℕ). IsFileOf repr bytes field m n one r elements nodes) is_right named)

      -- .. with a verdict
      pub answered : AreFor bits m n → (accepted says : Bool) → one ≡ left → other ≡ right
          → IsSumVerdict digest hasher repr (file_bytes f m n one other [] []) m n one other elements nodes accepted → accepted ≡ says
          → HasVerdict digest hasher repr bits field left right bytes says
      answered sized accepted says is_left is_right verdict is =
          let begun = subst (λ (v : TableField). Said v one other) same verdict in
          let moved = subst (λ (l : List ℕ). Said field l other) is_left begun in
          let all = subst (λ (r : List ℕ). Said field left r) is_right moved in
          subst (λ (b : Bool). HasVerdict digest hasher repr bits field left right bytes b) is
          (m, n, elements, nodes, sized, file-at is_left is_right, all)
        where
          -- the verdict on the file of a field with these roots
          Said : TableField → List ℕ → List ℕ → Type 0
          Said v l r = IsSumVerdict digest hasher repr (file_bytes v m n l r [] []) m n l r elements nodes accepted
