-- Searches for witnesses of work. The candidates are elements of a field, in the order of their representations.
use Rattle.std.specs.Prelude.{◌≡◌, ◌≢◌, ◌⊎◌, ◌<◌, ◌≤◌, ◌+◌, ◌-◌, ◌^◌, ℕ, Bool, true, false, cond, nat_lt}
use Rattle.transcripts.specs.declared.error.ChallengerError.{ChallengerError}
use Rattle.transcripts.specs.declared.error.ChallengerError.TheVariants as challenger_error
use Rattle.transcripts.specs.declared.error.GrindError.{GrindError}
use Rattle.transcripts.specs.declared.error.GrindError.TheVariants as grind_error

-- how many candidates a field of so many bits has: all elements below 64 bits, and the first 2^64 - 1 from there on
abbrev pub candidate_count : ℕ → ℕ
candidate_count width = cond (nat_lt width 64) (2 ^ width) (2 ^ 64 - 1)

-- a search for some bits requires eight bits to spare, in the field and in the 64 bits that count candidates; a search for no bits
-- is allowed in every field
abbrev pub MayGrind : ℕ → ℕ → Type 0
MayGrind width bits = bits ≢ 0 → (bits + 8 ≤ width) × (bits + 8 ≤ 64)

-- the first candidate that passes in a field of so many bits
pub record IsLeastPassing (passing : ℕ → Bool) (width number : ℕ) : Type 0 where
  pub candidate : number < candidate_count width
  pub passes : passing number ≡ true
  pub least : (earlier : ℕ) → earlier < number → passing earlier ≡ false

-- none of the first candidates passes, as many as `count`
abbrev pub NonePasses : (ℕ → Bool) → ℕ → Type 0
NonePasses passing count = (number : ℕ) → number < count → passing number ≡ false

-- why a search in a field of so many bits failed: memory was refused, or no candidate passes
abbrev pub FailsSearch : (ℕ → Bool) → ℕ → GrindError → Type 0
FailsSearch passing width error =
    (error ≡ grind_error.Memory) ⊎ (error ≡ grind_error.NoWitness) × NonePasses passing (candidate_count width)

-- the error of a search in which a call failed with this error
abbrev pub error_of : ChallengerError → GrindError
error_of challenger_error.Memory = grind_error.Memory
error_of challenger_error.Failed = grind_error.Failed
