-- What an operator of a ring, such as `+`, gives.
use Rattle.std.specs.Prelude.{◌≡◌, ℕ}

-- each result that the operator gives stands for `number`
abbrev pub Means : {R : Type 0} → (R → Type 0) → (R → ℕ) → ℕ → Type 0
Means {R} gives repr number = (r : R) → gives r → repr r ≡ number

-- the operator can be used, and each result that it gives stands for `number`
abbrev pub Gives : {R : Type 0} → Type 0 → (R → Type 0) → (R → ℕ) → ℕ → Type 0
Gives can gives repr number = can × Means gives repr number

-- `Gives` for an operator that can always be used
abbrev pub AlwaysGives : {R : Type 0} → (R → Type 0) → (R → ℕ) → ℕ → Type 0
AlwaysGives gives repr number = Gives (Unit {0}) gives repr number
