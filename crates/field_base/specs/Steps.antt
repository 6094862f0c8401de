-- What `serde` reads, one thing after the other.
use Rattle.std.specs.Prelude.{◌≡◌, ℕ, List, [], ◌∷◌}
use Rattle.serde.specs.Event.{Event}
use Rattle.serde.specs.Steps.{Begins}
use Rattle.serde.specs.declared.deserializer.Deserializer.{Deserializer}

-- These stand next, one after the other. Before each the reader may have looked ahead.
abbrev pub GivesEach : {F E M : Type 0} → (F → List ℕ → Event → F → Type 0) → (F → F → Type 0) → Deserializer F E M → List Event → Deserializer F E M → Type 0
GivesEach gives stays old [] new = new ≡ old
GivesEach {F} {E} {M} gives stays old (e ∷ es) new = (after : Deserializer F E M) × Begins gives stays old e after × GivesEach gives stays after es new
