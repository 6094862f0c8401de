-- Zero-checks in a transcript: what is observed and sampled, when they fail, and what a verifier is left with.
use Rattle.std.specs.Prelude.{◌≡◌, ◌≢◌, ◌⊎◌, ℕ, ◌^◌, ◌<◌, List, [], ◌∷◌, length, map, slice_index}
use Rattle.field_slices.specs.Multilinear.{AreCornerValues, multilinear_value}
use Rattle.transcripts.specs.Lists.{InTurn}
use Rattle.sum_checks.specs.Refusals.{CanBeStated}
use Rattle.sum_checks.specs.Sumcheck.{IsRunOf, Statement, statement_numbers, statement_of}
use Rattle.sum_checks.specs.SumcheckClaims.{IsSaved}
use Rattle.sum_checks.specs.ZeroCheck.{IsRootAt, eq_point, zero_check_rows, zero_check_terms, zero_check_value, zero_differences}
use Rattle.sum_checks.specs.declared.error.ProtocolError.{ProtocolError}
use Rattle.sum_checks.specs.declared.error.ProtocolError.TheVariants.{Shape}

-- ---- runs

-- what is observed of a zero-check in so many coordinates: that the sum of the terms e a b + e c is 0
abbrev pub zero_check_statement : ℕ → (ℕ → ℕ → ℕ) → ℕ → Statement
zero_check_statement width times rounds = statement_of width times rounds 4 zero_check_terms 0

-- the statement is observed, and then a point is sampled
abbrev pub IsZeroCheckStart : {C F : Type 0} → (C → F → C → Type 0) → (C → F → C → Type 0) → (F → ℕ) → C → Statement → List F → C → Type 0
IsZeroCheckStart {C} {F} observes gives repr old statement point new =
    (elements : List F) × (begun : C) × (map repr elements ≡ statement_numbers statement) × InTurn observes elements old begun
    × InTurn gives point begun new

-- .. and then comes the sum-check of the statement, which is observed once more
abbrev pub IsZeroCheckRun : {C F : Type 0} → (C → F → C → Type 0) → (C → F → C → Type 0) → (F → ℕ) → C → Statement → List F → List (List F)
    → List F → C → Type 0
IsZeroCheckRun {C} observes gives repr old statement point messages challenges new =
    (between : C) × IsZeroCheckStart observes gives repr old statement point between
    × IsRunOf observes gives repr between statement messages challenges new

-- ---- what is left

-- the values of e, a, b and c at the challenges
abbrev pub zero_check_row : (ℕ → ℕ → ℕ) → List ℕ → List ℕ → List ℕ → List ℕ → List ℕ → List ℕ
zero_check_row times point challenges a b c =
    eq_point times point challenges ∷ multilinear_value times a challenges ∷ multilinear_value times b challenges
    ∷ multilinear_value times c challenges ∷ []

-- soundness of one run: where tables differ at a corner, the claim that is left is the value at the challenges only where a coordinate of
-- the point is the root of a line that is not 0, or a challenge saves the claim that the sum is 0
abbrev pub NeedsLuck : ℕ → (ℕ → ℕ → ℕ) → List ℕ → List ℕ → List (List ℕ) → ℕ → Type 0
NeedsLuck width times point challenges messages claim =
    (a b c : List ℕ) (i : ℕ) → AreCornerValues width (length point) a → AreCornerValues width (length point) b
    → AreCornerValues width (length point) c → i < 2 ^ length point → times (slice_index a i) (slice_index b i) ≢ slice_index c i
    → claim ≡ zero_check_value times point challenges a b c
    → ((k : ℕ) × IsRootAt times (zero_differences times (length point) a b c) point k)
    ⊎ ((k : ℕ) × IsSaved width times zero_check_terms 4 0 (zero_check_rows times point a b c) challenges messages k)

-- ---- what has to fit

-- the statement can be observed, and there are three tables with a value for each corner of the cube, which has fewer than 2 ^ 64 of them
pub record ZerosCanBeProved (width rounds a b c : ℕ) : Type 0 where
  pub stated : CanBeStated width rounds 4 zero_check_terms
  pub few : rounds < 64
  pub first : a ≡ 2 ^ rounds
  pub second : b ≡ 2 ^ rounds
  pub third : c ≡ 2 ^ rounds

-- the error with which a prover refuses tables of so many values
abbrev pub ZeroProverRefuses : ℕ → ℕ → ℕ → ℕ → ℕ → ProtocolError → Type 0
ZeroProverRefuses width rounds a b c error = (error ≡ Shape) × (ZerosCanBeProved width rounds a b c → ⊥)
