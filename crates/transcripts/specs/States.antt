-- Relations between transcripts that depend on their states alone: what one observes and what another observes are then observed in
-- one state, and so is what they sample.
use Rattle.std.specs.Prelude.{◌≡◌}

-- where a relation leads from a transcript to another, the state after it depends on the state before it alone
abbrev pub LeadsByState : {C S : Type 0} → (C → S) → (C → C → Type 0) → Type 0
LeadsByState {C} state_of leads =
    (old new other_old other_new : C) → state_of old ≡ state_of other_old → leads old new → leads other_old other_new
    → state_of new ≡ state_of other_new

-- .. and so does the value that it gives
abbrev pub GivesByState : {C S T : Type 0} → (C → S) → (C → T → C → Type 0) → Type 0
GivesByState {C} {T = T} state_of gives =
    (old new other_old other_new : C) (value other : T) → state_of old ≡ state_of other_old
    → gives old value new → gives other_old other other_new → (value ≡ other) × (state_of new ≡ state_of other_new)
