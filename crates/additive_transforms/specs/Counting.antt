-- What counts the pairs of places that a transform computes: any count, or none.
use Rattle.std.specs.Prelude.{◌≡◌, ℕ, ◌+◌, ◌^◌, ◌<◌, ◌≤◌}
use Rattle.std.proofs.Common.{arith}

-- so many pairs were counted from the first state to the second, and a state has room for so many
pub record AddsUp {C : Type 0} (counted : C → C → ℕ → Type 0) (has_room : C → ℕ → Type 0) : Type 0 where
  pub none : (a : C) → counted a a 0
  pub more : (a b c : C) (m n : ℕ) → counted a b m → counted b c n → counted a c (m + n)
  pub rest : (a b : C) (m n most : ℕ) → m + n ≤ most → has_room a most → counted a b m → has_room b n

-- each state has room for any number
abbrev pub AlwaysHasRoom : {C : Type 0} → (C → ℕ → Type 0) → Type 0
AlwaysHasRoom {C} has_room = (a : C) (n : ℕ) → has_room a n
