-- What the program writes for two tables is accepted.
use Rattle.std.proofs.Common.{◌≡◌, inl, inr, ℕ, ◌*◌, ◌%◌, ◌^◌, ◌<◌, Bool, true, false, Ok, Result, List, [], length}
use Rattle.std.proofs.Common.{refl, sym, ◌∙◌, ap, subst, lit≤, lit<}
use Rattle.std.specs.Prelude.{IfOk, None, Option, Some, slice_index}
use Rattle.hex.specs.Hex.{decode_sized}
use Rattle.transcripts.specs.ByteCalls.{after, observing, sampling, squeezed_word}
use Rattle.transcripts.specs.HashBuffers.{HashState, hash_transitions}
use Rattle.transcripts.specs.States.{GivesByState, LeadsByState}
use Rattle.transcript_elements.specs.Sampled.{check_calls, squeezed_elements}
use Rattle.field_base.specs.Chunks.{chunks}
use Rattle.field_base.proofs.ChunkLists.{chunks-whole}
use Rattle.field_bytes.specs.Bytes.{low_bytes}
use Rattle.field_bytes.specs.Streams.{joined_bytes}
use Rattle.field_element.specs.Element.{repr_of}
use Rattle.transcripts.specs.Commitments.{root_of}
use Rattle.transcripts.specs.Openings.{OpeningsHaveOneCount}
use Rattle.sum_checks.specs.SumcheckClaims.{HonestReduces}
use Rattle.protocols.specs.CodeWords.{PartsDetermine}
use Rattle.protocols.proofs.ProofBytes.{same-bytes, same-proof}
use Rattle.prove_sums.specs.Bits.{AreFor, HaveSoundBits, NoneIsFor}
use Rattle.prove_sums.specs.Completeness.{WrittenProofsAreAccepted}
use Rattle.prove_sums.specs.ProofFiles.{IsFileOf, IsNoFile, IsOnlyFileOf, file_bytes, number_in}
use Rattle.prove_sums.specs.Reports.{SaysAnswer, sum_line}
use Rattle.prove_sums.specs.Shapes.{sum_in}
use Rattle.prove_sums.specs.Soundness.{HasPoints}
use Rattle.prove_sums.specs.Verdicts.{IsAnswerTo, IsProgramProof, IsSumVerdict, VerifiesSum, checks_number, gives_number, observes_number}
use Rattle.prove_sums.specs.Verdicts.{passes_number, samples_bits, word_times, word_vector}
use Rattle.prove_sums.specs.declared.refusal.Refusal.{Refusal}
use Rattle.prove_sums.specs.declared.refusal.Refusal.TheVariants.{NotAProof, OtherVersion, OtherField, Length, OtherParameters, TooFewBits, OtherLeft, OtherRight, NotProved}
use Rattle.prove_sums.specs.declared.tables.Table.{Table}
use Rattle.prove_sums.specs.declared.tables.TableField.{TableField}
use Rattle.prove_sums.proofs.CommittedRoots.{one-root, table-held}
use Rattle.prove_sums.proofs.Completeness.{honest_sums_are_accepted}
use Rattle.prove_sums.proofs.Files.{one-file}
use Rattle.prove_sums.proofs.SizeBits.{one-for}

-- ---- states of a transcript

module _ {F H : Type 0} (digest : H → List ℕ → List ℕ) (repr : F → ℕ) (points : HasPoints repr 16 128 word_times word_vector) where
  observed-once : (value : F) → LeadsByState (λ (s : HashState H). s) (λ old new. observes_number digest old (repr value) new)
  observed-once value old new other_old other_new same one other =
      one ∙ ap (after (hash_transitions digest) (observing (low_bytes 16 (repr value)))) same ∙ sym other

  -- one coefficient is its number
  one-coefficient : (a b : ℕ) → a < 2 ^ 128 → b < 2 ^ 128 → chunks 128 1 a ≡ chunks 128 1 b → a ≡ b
  one-coefficient a b a_fits b_fits same =
      ap (λ (l : List ℕ). slice_index l 0) (chunks-whole 128 a a_fits ∙ same ∙ sym (chunks-whole 128 b b_fits))

  given-once : GivesByState (λ (s : HashState H). s) (λ (old : HashState H) (x : F) (new : HashState H). gives_number digest old (repr x) new)
  given-once old new other_old other_new value other same (one_fits, (one_after, one_is)) (other_fits, (other_after, other_is)) = (
    points.same value other
        (one-coefficient (repr value) (repr other) one_fits other_fits
        (one_is ∙ ap (squeezed_elements (hash_transitions digest) 16 128 1) same ∙ sym other_is)),
    one_after ∙ ap (after (hash_transitions digest) (sampling (16 * 1))) same ∙ sym other_after,
  )

  checked-once : (bits n : ℕ) → LeadsByState (λ (s : HashState H). s) (λ old new. checks_number digest old bits n new)
  checked-once bits n old new other_old other_new same one other =
      one ∙ ap (after (hash_transitions digest) (check_calls 16 bits n)) same ∙ sym other

  bits-once : (bits : ℕ) → GivesByState (λ (s : HashState H). s) (λ (old : HashState H) (n : ℕ) (new : HashState H). samples_bits digest old bits n new)
  bits-once bits old new other_old other_new value other same one two = (
    one.1 ∙ ap (λ (s : HashState H). squeezed_word (hash_transitions digest) (sampling 8) s % 2 ^ bits) same ∙ sym two.1,
    one.0 ∙ ap (after (hash_transitions digest) (sampling 8)) same ∙ sym two.0,
  )

  -- ---- the file

  -- a file of a proof has one list of elements and of nodes, and no other parts
  only-file : (bytes : List ℕ) (field : TableField) (m n : ℕ) (left right : List ℕ) (elements : List F) (nodes : List (List ℕ))
      → IsFileOf repr bytes field m n left right elements nodes → IsOnlyFileOf repr bytes field m n left right elements nodes
  only-file bytes field m n left right elements nodes file f k l one other others ns is =
      let same =
      one-file bytes field m n left right (joined_bytes 16 repr elements) nodes file.may_be file.written f k l one other (joined_bytes 16 repr others) ns
      is.may_be is.written in (
        same.0,
        same.1,
        same.2,
        same.3,
        same.4,
        same-proof 16 repr (lit< tt) (same-bytes 16 repr 128 points.room points.range points.same) elements others same.5,
        same.6,
      )

  module _ (reduces : HonestReduces) (counts : OpeningsHaveOneCount) (hasher : H) (bits : ℕ) (field : TableField) (left right proof : List ℕ)
      (is : IsProgramProof digest hasher repr bits field left right proof) where
    -- the verdict on what was sent is true
    verdict-true : (accepted : Bool)
        → IsSumVerdict digest hasher repr (file_bytes field is.queries is.rounds is.one_root is.other_root [] []) is.queries is.rounds is.one_root is.other_root
        is.elements is.nodes accepted
        → accepted ≡ true
    verdict-true accepted verdict =
        let start : HashState H = (hasher, file_bytes field is.queries is.rounds is.one_root is.other_root [] [], []) in
        honest_sums_are_accepted (λ (s : HashState H). s) (λ old x new. observes_number digest old (repr x) new)
        (λ old x new. gives_number digest old (repr x) new) (passes_number digest) (checks_number digest) (samples_bits digest) observed-once
        given-once (λ one other b n same. ap (λ (s : HashState H). passes_number digest s b n) same) checked-once bits-once repr repr 16 128 word_times
        word_vector points points.same reduces counts (digest hasher) is.queries is.rounds is.one is.other is.one_columns is.other_columns is.one_tree
        is.other_tree is.elements is.nodes start start accepted (lit≤ tt) (table-held is.left_table is.left_root is.left_tree)
        (table-held is.right_table is.right_root is.right_tree) is.honest refl
        (subst (λ (r : List ℕ). At (root_of is.one_tree) r) is.right_tree.top (subst (λ (l : List ℕ). At l is.other_root) is.left_tree.top verdict))
      where
        -- the verdict for two roots
        At : List ℕ → List ℕ → Type 0
        At one other =
            VerifiesSum (λ old x new. observes_number digest old (repr x) new) (λ old x new. gives_number digest old (repr x) new)
            (passes_number digest) (checks_number digest) (samples_bits digest) repr repr (digest hasher) 16 128 word_times word_vector is.queries
            is.rounds one other is.elements is.nodes (hasher, file_bytes field is.queries is.rounds is.one_root is.other_root [] [], []) accepted

    -- the parts of the file are those that were written
    only : IsOnlyFileOf repr proof field is.queries is.rounds is.one_root is.other_root is.elements is.nodes
    only = only-file proof field is.queries is.rounds is.one_root is.other_root is.elements is.nodes is.file

    some-file : IsNoFile repr proof → ⊥
    some-file none = none field is.queries is.rounds is.one_root is.other_root is.elements is.nodes is.file

    -- its sizes reach the bits
    reached : NoneIsFor bits is.rounds → ⊥
    reached none = elim is.sized.1 [
      | inl seven ↦ none.0 (subst (λ (m : ℕ). HaveSoundBits m is.rounds bits) seven is.sized.0)
      | inr eight ↦ none.1 (subst (λ (m : ℕ). HaveSoundBits m is.rounds bits) eight.0 is.sized.0)
    ]

    pub answered-accepted : (refusal : Option Refusal) → IsAnswerTo digest hasher repr bits field is.one_root is.other_root proof refusal
        → refusal ≡ None
    answered-accepted None told = refl
    answered-accepted (Some NotAProof) told = absurd (some-file told)
    answered-accepted (Some OtherVersion) told = absurd (some-file told)
    answered-accepted (Some Length) told = absurd (some-file told)
    answered-accepted (Some OtherField) (inl told) = absurd (some-file told)
    answered-accepted (Some OtherField) (inr (f, m, n, l, r, es, ns, file, other)) = absurd (other (sym (only f m n l r es ns file).0))
    answered-accepted (Some OtherLeft) (m, n, l, r, es, ns, file, other) = absurd (other (sym (only field m n l r es ns file).3))
    answered-accepted (Some OtherRight) (m, n, r, es, ns, file, other) = absurd (other (sym (only field m n is.one_root r es ns file).4))
    answered-accepted (Some OtherParameters) (m, n, l, r, es, ns, file, (k, sized, other)) =
        let same = only field m n l r es ns file in
        absurd (other (sym same.1 ∙ one-for bits is.rounds is.queries k is.sized (subst (λ (v : ℕ). AreFor bits k v) (sym same.2) sized)))
    answered-accepted (Some TooFewBits) (m, n, l, r, es, ns, file, none) =
        absurd (reached (subst (λ (v : ℕ). NoneIsFor bits v) (sym (only field m n l r es ns file).2) none))
    answered-accepted (Some NotProved) (m, n, es, ns, sized, file, verdict) =
        let same = only field m n is.one_root is.other_root es ns file in
        let moved = subst (λ (v : ℕ). Says v n es ns) (sym same.1) verdict in
        let moved₂ = subst (λ (v : ℕ). Says is.queries v es ns) (sym same.2) moved in
        let moved₃ = subst (λ (l : List F). Says is.queries is.rounds l ns) (sym same.5) moved₂ in
        let none : false ≡ true =
        verdict-true false (subst (λ (l : List (List ℕ)). Says is.queries is.rounds is.elements l) (sym same.6) moved₃) in
        absurd (cc)
      where
        -- the verdict on parts is false
        Says : ℕ → ℕ → List F → List (List ℕ) → Type 0
        Says m n es ns =
            IsSumVerdict digest hasher repr (file_bytes field m n is.one_root is.other_root [] []) m n is.one_root is.other_root es ns false

    -- what is printed for it is its sum
    says-sum : (line said : List ℕ) (code : ℕ) → SaysAnswer repr field is.one_root is.other_root proof None said code
        → line ≡ sum_line (sum_in repr is.elements) (length proof) → (said ≡ line) × (code ≡ 0)
    says-sum line said code (done, (m, n, es, ns, file, says)) printed =
        let same = only field m n is.one_root is.other_root es ns file in
        (says ∙ ap (λ (l : List F). sum_line (sum_in repr l) (length proof)) (sym same.5) ∙ sym printed, done)

    pub verified-sum : (one other line said : List ℕ) (code : ℕ) (refusal : Option Refusal) → one ≡ is.one_root → other ≡ is.other_root
        → IsAnswerTo digest hasher repr bits field one other proof refusal → SaysAnswer repr field one other proof refusal said code
        → line ≡ sum_line (sum_in repr is.elements) (length proof) → (said ≡ line) × (code ≡ 0)
    verified-sum one other line said code refusal left_is right_is told says printed =
        let moved = subst (λ (l : List ℕ). IsAnswerTo digest hasher repr bits field l other proof refusal) left_is told in
        let none = answered-accepted refusal (subst (λ (r : List ℕ). IsAnswerTo digest hasher repr bits field is.one_root r proof refusal) right_is moved) in
        let left_says = subst (λ (l : List ℕ). SaysAnswer repr field l other proof refusal said code) left_is says in
        let right_says = subst (λ (r : List ℕ). SaysAnswer repr field is.one_root r proof refusal said code) right_is left_says in
        says-sum line said code (subst (λ (o : Option Refusal). SaysAnswer repr field is.one_root is.other_root proof o said code) none right_says) printed

-- ---- the program

-- digits are those of one root
root-once : {T E : Type 0} (told : Result T E) (one other : T) → told ≡ Ok one → told ≡ Ok other → one ≡ other
root-once {T} {E} told one other is same =
    subst (λ (r : Result T E). IfOk r (λ v. one ≡ v)) same (subst (λ (r : Result T E). IfOk r (λ v. one ≡ v)) (sym is) refl)

pub written_proofs_are_accepted : {H : Type 0} (digest : H → List ℕ → List ℕ)
    → HasPoints (number_in (λ (table : Table). table.elements.items) repr_of) 16 128 word_times word_vector → HonestReduces → OpeningsHaveOneCount
    → PartsDetermine → WrittenProofsAreAccepted digest
written_proofs_are_accepted digest points reduces counts determine hasher bits field left right left_root right_root left_digits right_digits proof line
    said status code one other left_named right_named report verified =
    let number = number_in (λ (table : Table). table.elements.items) repr_of in
    let is = report.is in
    verified-sum digest number points reduces counts hasher bits field left right proof is verified.left_root verified.right_root line said code
    verified.refusal
    (root-once (decode_sized left_digits 32) verified.left_root left_root verified.left_named left_named
    ∙ one-root number points determine (digest hasher) bits field left left_root is.one_root one is.queries is.rounds is.one is.one_columns is.sized
    is.left_table is.left_root)
    (root-once (decode_sized right_digits 32) verified.right_root right_root verified.right_named right_named
    ∙ one-root number points determine (digest hasher) bits field right right_root is.other_root other is.queries is.rounds is.other is.other_columns
    is.sized is.right_table is.right_root) verified.answered verified.said report.said
