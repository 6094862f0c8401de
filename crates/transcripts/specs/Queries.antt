-- Places that are sampled in a transcript after a proof of work, whose relations say where checking a witness and sampling may lead.
use Rattle.std.specs.Prelude.{◌≡◌, ℕ, ◌^◌, ◌<◌, All, Bool, List}
use Rattle.transcripts.specs.Lists.{InTurn}

-- a witness for so many bits is checked, which says whether it works, and then the places are sampled in order, numbers of `depth` bits
abbrev pub AreQueries : {C : Type 0} → (C → ℕ → ℕ → Bool) → (C → ℕ → ℕ → C → Type 0) → (C → ℕ → ℕ → C → Type 0) → C → ℕ → ℕ → Bool → ℕ
    → List ℕ → C → Type 0
AreQueries {C} passing checks gives_bits old bits witness works depth places new =
    (worked : C) × (works ≡ passing old bits witness) × checks old bits witness worked
    × InTurn (λ from place to. gives_bits from depth place to) places worked new

-- numbers are below 2 ^ depth, if those are that sampling so many bits may give
abbrev pub AreBelow : {C : Type 0} → (C → ℕ → ℕ → C → Type 0) → ℕ → List ℕ → Type 0
AreBelow {C} gives_bits depth places =
    ((old : C) (number : ℕ) (new : C) → gives_bits old depth number new → number < 2 ^ depth) → All (λ place. place < 2 ^ depth) places
