-- Draws of places in a transcript, and calls that fail for memory alone.
use Rattle.std.proofs.Common.{◌≡◌, ◌↔◌, ℕ, Bool, List, length, Result, inl, inr, sym, ◌∙◌, ap, subst}
use Rattle.std.specs.Prelude.{IfErr, IsErrAnd, IsTrue}
use Rattle.std.proofs.lemmas.Result.{err_from_is_err_and}
use Rattle.transcripts.specs.Grinding.{FailsSearch}
use Rattle.transcripts.specs.Lists.{InTurn}
use Rattle.transcripts.specs.declared.error.GrindError.{GrindError}
use Rattle.transcripts.specs.Queries.{AreQueries}
use Rattle.sum_checks.specs.Refusals.{error_of_search}
use Rattle.sum_checks.specs.declared.error.ProtocolError.{ProtocolError}
use Rattle.sum_checks.specs.declared.error.ProtocolError.TheVariants.{Memory}
use Rattle.protocols.specs.CommitmentScheme.{ArePlacesDrawn, StopsOpening, block_places, opening_work, place_bits, place_count}

-- an error has a property, since the call within failed with one from which it follows
pub fails-so : {T : Type 0} {P Q : ProtocolError → Type 0} (result : Result T ProtocolError) → IsErrAnd result Q
    → ((error : ProtocolError) → Q error → P error) → IfErr result P
fails-so {T} {P} result fails only =
    let error = err_from_is_err_and result fails in
    subst (λ (r : Result T ProtocolError). IfErr r P) (sym error.1) (only error.0 error.2)

-- .. it is that error
pub fails-as : {T : Type 0} (P : ProtocolError → Type 0) (result : Result T ProtocolError) (error : ProtocolError)
    → IsErrAnd result (λ e. e ≡ error) → P error → IfErr result P
fails-as P result error fails is = fails-so result fails (λ e same. subst P (sym same) is)

-- .. it is one of memory
pub memory-alone : {T : Type 0} {Q : ProtocolError → Type 0} (result : Result T ProtocolError) → IsErrAnd result Q
    → ((error : ProtocolError) → Q error → error ≡ Memory) → IfErr result (λ error. error ≡ Memory)
memory-alone result fails only = fails-so result fails only

-- a search that fails stops a prover
pub search-stops : {C : Type 0} (passing : C → ℕ → ℕ → Bool) (width : ℕ) (state : C) (refusal : GrindError) (error : ProtocolError)
    → error ≡ error_of_search refusal → FailsSearch (passing state opening_work) width refusal → StopsOpening passing width error
search-stops passing width state refusal error is (inl memory) = inl (is ∙ ap error_of_search memory)
search-stops passing width state refusal error is (inr none) = inr (is ∙ ap error_of_search none.0, (state, none.1))

-- places that are drawn by numbers of `bits` bits, behind what was sent
pub places-drawn : {C F : Type 0} (observes gives : C → F → C → Type 0) (passing : C → ℕ → ℕ → Bool) (checks gives_bits : C → ℕ → ℕ → C → Type 0)
    (m n : ℕ) (numbers : List ℕ) {bits witness : ℕ} {sent : List F} {works : Bool} {places : List ℕ} {old observed turned new : C} {challenge : F}
    → bits ≡ place_bits m n → InTurn observes sent old observed → gives observed challenge turned
    → AreQueries passing checks gives_bits turned opening_work witness works bits numbers new → length numbers ≡ place_count m n
    → places ≡ block_places (place_bits m n) numbers
    → ArePlacesDrawn observes gives passing checks gives_bits m n sent witness old works places new
places-drawn observes gives passing checks gives_bits m n numbers {bits} {witness} {sent} {works} {places} {old} {observed} {turned} {new}
    {challenge} are_bits taken given queries count chosen = record {
      challenge = challenge;
      turned = turned;
      numbers = numbers;
      turn = (observed, taken, given);
      queries = subst (λ (b : ℕ). AreQueries passing checks gives_bits turned opening_work witness works b numbers new) are_bits queries;
      count = count;
      chosen = chosen;
    }

-- a comparison of elements as one of numbers
pub decided : (accepted test : Bool) (one other left right : ℕ) → accepted ≡ test → IsTrue test ↔ (one ≡ other) → one ≡ left → other ≡ right
    → IsTrue accepted ↔ (left ≡ right)
decided accepted test one other left right same law is_left is_right =
    subst (λ (t : Bool). IsTrue t ↔ (left ≡ right)) (sym same)
    ((λ holds. sym is_left ∙ law.0 holds ∙ is_right), λ equal. law.1 (is_left ∙ equal ∙ sym is_right))
