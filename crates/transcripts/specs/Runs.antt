-- Runs of an opening in a transcript, whose relations say where observing, checking a witness and sampling may lead.
use Rattle.std.specs.Prelude.{◌≡◌, ◌↔◌, ◌⊎◌, ℕ, ◌%◌, ◌^◌, ◌<◌, Bool, List, ◌++◌, length, IsTrue}
use Rattle.std.specs.Int.{to_le_bytes, w64}
use Rattle.transcripts.specs.declared.digest.Hash.{Hash}
use Rattle.transcripts.specs.Digests.{words_of}
use Rattle.transcripts.specs.Grinding.{NonePasses, candidate_count}
use Rattle.transcripts.specs.declared.commitment.OpeningStatement.{OpeningStatement}
use Rattle.transcripts.specs.declared.error.GrindError.{GrindError}
use Rattle.transcripts.specs.declared.error.GrindError.TheVariants.{Memory, NoWitness}
use Rattle.transcripts.specs.MerkleTrees.{Leads}

-- what is observed of a statement: the depth and the bits of the work, each as eight bytes from the lowest, and the root
abbrev pub statement_bytes : ℕ → ℕ → List ℕ → List ℕ
statement_bytes depth bits root = to_le_bytes w64 depth ++ to_le_bytes w64 bits ++ root

-- statements whose bytes begin alike are the same
abbrev pub StatementsDiffer : Type 0
StatementsDiffer =
    (depth other_depth bits other_bits : ℕ) (root other_root rest other_rest : List ℕ)
    → depth < 2 ^ 64 → other_depth < 2 ^ 64 → bits < 2 ^ 64 → other_bits < 2 ^ 64 → length root ≡ 32 → length other_root ≡ 32
    → statement_bytes depth bits root ++ rest ≡ statement_bytes other_depth other_bits other_root ++ other_rest
    → (depth ≡ other_depth) × (bits ≡ other_bits) × (root ≡ other_root)

-- the statement of this depth, this work and this root is observed
abbrev pub ObservesStatement : {C : Type 0} → (C → Hash OpeningStatement ℕ 48 → C → Type 0) → ℕ → ℕ → List ℕ → C → C → Type 0
ObservesStatement observes depth bits root old new =
    (statement : Hash OpeningStatement ℕ 48) × (words_of statement ≡ statement_bytes depth bits root) × observes old statement new

-- the statement is observed, a witness for so many bits is checked, which says whether it works, and a number of `depth` bits is
-- sampled
abbrev pub IsRun : {C : Type 0} → (C → Hash OpeningStatement ℕ 48 → C → Type 0) → (C → ℕ → ℕ → Bool) → (C → ℕ → ℕ → C → Type 0)
    → (C → ℕ → ℕ → C → Type 0) → ℕ → ℕ → List ℕ → C → ℕ → Bool → ℕ → C → Type 0
IsRun {C} observes passing checks gives_bits depth bits root old witness works number new =
    (one : C) × (other : C) × ObservesStatement observes depth bits root old one × (works ≡ passing one bits witness)
    × checks one bits witness other × gives_bits other depth number new

-- a run at whose end an opening is accepted exactly if its witness works, its index is the one that was sampled, and its path leads
-- from its word there to the root
abbrev pub IsVerdict : {C : Type 0} → (C → Hash OpeningStatement ℕ 48 → C → Type 0) → (C → ℕ → ℕ → Bool) → (C → ℕ → ℕ → C → Type 0)
    → (C → ℕ → ℕ → C → Type 0) → (List ℕ → List ℕ) → ℕ → ℕ → List ℕ → C → ℕ → ℕ → ℕ → List (List ℕ) → Bool → C → Type 0
IsVerdict observes passing checks gives_bits hash depth bits root old witness index word path accepted new =
    (works : Bool) × (number : ℕ) × IsRun observes passing checks gives_bits depth bits root old witness works number new
    × (IsTrue accepted ↔ IsTrue works × (index ≡ number % 2 ^ depth) × Leads hash depth root index word path)

-- why a prover of an opening fails: memory was refused, or no candidate passes once the statement is observed
abbrev pub StopsProver : {C : Type 0} → (C → Hash OpeningStatement ℕ 48 → C → Type 0) → (C → ℕ → ℕ → Bool) → ℕ → ℕ → ℕ → List ℕ → C
    → GrindError → Type 0
StopsProver {C} observes passing width depth bits root old error =
    (error ≡ Memory)
    ⊎ (error ≡ NoWitness) × (one : C) × ObservesStatement observes depth bits root old one × NonePasses (passing one bits) (candidate_count width)
