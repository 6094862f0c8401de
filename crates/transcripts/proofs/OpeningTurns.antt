-- Two runs of an opening that begin in one state, with one root and one witness, say the same of the witness and sample the same
-- number, so that what the prover opens is what the verifier looks at.
use Rattle.std.proofs.Common.{◌≡◌, ◌⊎◌, inl, inr, ℕ, ◌%◌, ◌^◌, Bool, true, List, sym, ◌∙◌, ap, subst}
use Rattle.std.specs.Prelude.{IsTrue}
use Rattle.transcripts.specs.declared.digest.Hash.{Hash}
use Rattle.transcripts.specs.Digests.{words_of}
use Rattle.transcripts.specs.Grinding.{NonePasses, candidate_count}
use Rattle.transcripts.specs.States.{GivesByState, LeadsByState}
use Rattle.transcripts.specs.declared.commitment.OpeningStatement.{OpeningStatement}
use Rattle.transcripts.specs.declared.error.GrindError.{GrindError}
use Rattle.transcripts.specs.declared.error.GrindError.TheVariants.{Memory, NoWitness}
use Rattle.transcripts.specs.MerkleTrees.{Leads}
use Rattle.transcripts.specs.Runs.{IsRun, IsVerdict, ObservesStatement, StopsProver}

-- statements of the same bytes are the same
same_statement : (one other : Hash OpeningStatement ℕ 48) → words_of one ≡ words_of other → one ≡ other
same_statement one other same = ap (λ (words : List ℕ). record { words = words; of = one.of }) same

-- a search that fails once the statement is observed stops the prover
pub prover-stops : {C : Type 0} (observes : C → Hash OpeningStatement ℕ 48 → C → Type 0) (passing : C → ℕ → ℕ → Bool) (width depth bits : ℕ)
    (root : List ℕ) (old one : C) (error : GrindError) → ObservesStatement observes depth bits root old one
    → (error ≡ Memory) ⊎ (error ≡ NoWitness) × NonePasses (passing one bits) (candidate_count width)
    → StopsProver observes passing width depth bits root old error
prover-stops observes passing width depth bits root old one error seen (inl is) = inl is
prover-stops observes passing width depth bits root old one error seen (inr is) = inr (is.0, one, seen, is.1)

module _ {C S : Type 0} (state : C → S) (observes : C → Hash OpeningStatement ℕ 48 → C → Type 0) (passing : C → ℕ → ℕ → Bool)
    (checks : C → ℕ → ℕ → C → Type 0) (gives_bits : C → ℕ → ℕ → C → Type 0)
    (observes_law : (value : Hash OpeningStatement ℕ 48) → LeadsByState state (λ old new. observes old value new))
    (passing_law : (one other : C) (bits n : ℕ) → state one ≡ state other → passing one bits n ≡ passing other bits n)
    (checks_law : (bits n : ℕ) → LeadsByState state (λ old new. checks old bits n new))
    (gives_law : (bits : ℕ) → GivesByState state (λ (old : C) (number : ℕ) (new : C). gives_bits old bits number new))
    (depth bits : ℕ) (root : List ℕ) (old new other_old other_new : C) (witness number : ℕ) where
  same_run : (other_number : ℕ) (works other_works : Bool) → state old ≡ state other_old
      → IsRun observes passing checks gives_bits depth bits root old witness works number new
      → IsRun observes passing checks gives_bits depth bits root other_old witness other_works other_number other_new
      → (works ≡ other_works) × (number ≡ other_number)
  same_run other_number works other_works same run other_run =
      let seen = run.2 in
      let other_seen = other_run.2 in
      let observed =
      subst (λ (statement : Hash OpeningStatement ℕ 48). observes old statement run.0)
      (same_statement seen.0 other_seen.0 (seen.1 ∙ sym other_seen.1)) seen.2 in
      let ones : state run.0 ≡ state other_run.0 =
      observes_law other_seen.0 old run.0 other_old other_run.0 same observed other_seen.2 in
      let others : state run.1 ≡ state other_run.1 = checks_law bits witness run.0 run.1 other_run.0 other_run.1 ones run.4 other_run.4 in
      let numbers = gives_law depth run.1 new other_run.1 other_new number other_number others run.5 other_run.5 in
      (run.3 ∙ passing_law run.0 other_run.0 bits witness ones ∙ sym other_run.3, numbers.0)

  -- so the verifier accepts a path that leads from the place of the prover's number
  pub accepted-run : (hash : List ℕ → List ℕ) (index word : ℕ) (path : List (List ℕ)) (accepted : Bool) → state old ≡ state other_old
      → IsRun observes passing checks gives_bits depth bits root old witness true number new → index ≡ number % 2 ^ depth
      → Leads hash depth root index word path
      → IsVerdict observes passing checks gives_bits hash depth bits root other_old witness index word path accepted other_new → IsTrue accepted
  accepted-run hash index word path accepted same run place leads verdict =
      let both = same_run verdict.1 true verdict.0 same run verdict.2 in
      verdict.3.1 (sym both.0, place ∙ ap (λ (n : ℕ). n % 2 ^ depth) both.1, leads)
