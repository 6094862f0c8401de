-- Calls on a transcript for the values of a list, one after the other. A step is a relation: with this value it may lead from the
-- first transcript to the second.
use Rattle.std.specs.Prelude.{◌≡◌, ◌<◌, ℕ, List, [], ◌∷◌, length, take}

-- the steps of the values lead from the first transcript to the second, each from where the one before it has led
unfoldable pub InTurn : {T C : Type 0} → (C → T → C → Type 0) → List T → C → C → Type 0
InTurn step [] old new = new ≡ old
InTurn {C = C} step (value ∷ values) old new = (next : C) × step old value next × InTurn step values next new

-- the steps of some first values are made, not of all, and what they lead to may leave the second transcript
abbrev pub BeginsInTurn : {T C : Type 0} → (C → T → C → Type 0) → (C → C → Type 0) → List T → C → C → Type 0
BeginsInTurn {C = C} step may_leave values old new =
    (count : ℕ) × (last : C) × (count < length values) × InTurn step (take count values) old last × may_leave last new
