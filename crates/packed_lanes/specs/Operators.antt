-- What operators on words give.
use Rattle.std.specs.Prelude.{◌≡◌, ℕ}

-- an operator can be called, and each value that it gives has the number n
abbrev pub GivesNumber : {A : Type 0} → (A → ℕ) → Type 0 → (A → Type 0) → ℕ → Type 0
GivesNumber {A} number can gives n = can × ((r : A) → gives r → number r ≡ n)
