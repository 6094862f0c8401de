-- When a prover or a verifier fails, and with which error. The terms are sums of products of `count` polynomials in `rounds`
-- coordinates, over a field of `width` bits.
use Rattle.std.specs.Prelude.{◌≡◌, ◌≢◌, ◌⊎◌, ◌*◌, ◌^◌, ◌<◌, ◌≤◌, ℕ, Bool, true, false, List, length, Err, IfErr, OnOk, Result}
use Rattle.sum_checks.specs.Terms.{AreWithin, Product, degree_of}
use Rattle.sum_checks.specs.declared.error.ProtocolError.{ProtocolError}
use Rattle.sum_checks.specs.declared.error.ProtocolError.TheVariants.{Challenger, Length, Memory, NoWitness, Shape}
use Rattle.transcripts.specs.declared.error.ChallengerError.{ChallengerError}
use Rattle.transcripts.specs.declared.error.ChallengerError.TheVariants as challenger_error
use Rattle.transcripts.specs.declared.error.GrindError.{GrindError}
use Rattle.transcripts.specs.declared.error.GrindError.TheVariants as grind_error

-- the error of a call of a challenger
abbrev pub error_of_call : ChallengerError → ProtocolError
error_of_call challenger_error.Memory = Memory
error_of_call challenger_error.Failed = Challenger

-- .. and of a search for a witness
abbrev pub error_of_search : GrindError → ProtocolError
error_of_search grind_error.Memory = Memory
error_of_search grind_error.Failed = Challenger
error_of_search grind_error.NoWitness = NoWitness

-- ---- what has to fit

-- A transcript can observe the statement: the field has at least eight elements, each factor is the number of a polynomial, and each count is
-- the representation of an element.
pub record CanBeStated (width rounds count : ℕ) (terms : List Product) : Type 0 where
  pub field : 3 ≤ width
  pub within : AreWithin count terms
  pub rounds_fit : rounds < 2 ^ width
  pub count_fits : count < 2 ^ width
  pub terms_fit : length terms < 2 ^ width

-- A prover has so many values as the polynomials have at the corners of the cube, which has fewer than 2 ^ 64 of them.
pub record CanBeProved (width rounds count : ℕ) (terms : List Product) (size : ℕ) : Type 0 where
  pub stated : CanBeStated width rounds count terms
  pub few : rounds < 64
  pub whole : size ≡ 2 ^ rounds * count

-- the error with which a prover refuses so many values
abbrev pub ProverRefuses : ℕ → ℕ → ℕ → List Product → ℕ → ProtocolError → Type 0
ProverRefuses width rounds count terms size error = (error ≡ Shape) × (CanBeProved width rounds count terms size → ⊥)

-- .. and a verifier so many values of messages, of which each has to have as many as a term has factors at most
abbrev pub VerifierRefuses : ℕ → ℕ → ℕ → List Product → ℕ → ProtocolError → Type 0
VerifierRefuses width rounds count terms size error =
    (error ≡ Length) × (size ≢ rounds * degree_of terms)
    ⊎ (error ≡ Shape) × (size ≡ rounds * degree_of terms) × (CanBeStated width rounds count terms → ⊥)

-- ---- what a call returns

-- Of a call in a transcript that had failed before, or had not: `Challenger` if it had; else the error with which the operands are refused,
-- if they are; else a result, or `Memory`. Where it is one of the first two, what is called is as before. After a result the transcript
-- has not failed.
pub record IsAnswer {T : Type 0} (failed_before failed_after : Bool) (refuses : ProtocolError → Type 0) (kept : Type 0)
    (result : Result T ProtocolError) : Type 0 where
  pub failed : failed_before ≡ true → (result ≡ Err Challenger) × kept
  pub refused : failed_before ≡ false → (error : ProtocolError) → refuses error → (result ≡ Err error) × kept
  pub memory : failed_before ≡ false → IfErr result (λ error. (error ≡ Memory) ⊎ refuses error)
  pub goes_on : OnOk result (failed_after ≡ false)
