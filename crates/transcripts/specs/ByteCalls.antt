-- Byte calls of a transcript, and their runs. A byte is a number below 256. A byte challenger has a type of states and two
-- transitions on it.
use Rattle.std.specs.Prelude.{◌≡◌, ◌<◌, ℕ, List, [], ◌∷◌, ◌++◌, length, map, replicate, take}
use Rattle.std.specs.Int.{from_le_bytes, w64}

-- what a byte call does to a state: `observed` gives the state after a byte was observed, and `sampled` the byte that is sampled
-- and the state after it
pub record Transitions (S : Type 0) : Type 0 where
  pub observed : S → ℕ → S
  pub sampled : S → ℕ × S

-- a call of a byte challenger: to observe a byte, or to sample one
pub data ByteCall : Type 0 where
  Observe : ℕ → ByteCall
  Sample : ByteCall

-- the calls that observe these bytes, in order
abbrev pub observing : List ℕ → List ByteCall
observing bytes = map Observe bytes

-- as many calls that sample a byte
abbrev pub sampling : ℕ → List ByteCall
sampling count = replicate count Sample

-- the state after a list of calls, made in order
unfoldable pub after : {S : Type 0} → Transitions S → List ByteCall → S → S
after transitions [] state = state
after transitions (Observe byte ∷ calls) state = after transitions calls (transitions.observed state byte)
after transitions (Sample ∷ calls) state = after transitions calls (transitions.sampled state).1

-- the bytes that a list of calls samples, in order
unfoldable pub squeezed : {S : Type 0} → Transitions S → List ByteCall → S → List ℕ
squeezed transitions [] state = []
squeezed transitions (Observe byte ∷ calls) state = squeezed transitions calls (transitions.observed state byte)
squeezed transitions (Sample ∷ calls) state =
    (transitions.sampled state).0 ∷ squeezed transitions calls (transitions.sampled state).1

-- the 64-bit word of the eight bytes that a list of calls samples, the lowest first
abbrev pub squeezed_word : {S : Type 0} → Transitions S → List ByteCall → S → ℕ
squeezed_word transitions calls state = from_le_bytes w64 (squeezed transitions calls state)

-- two lists of calls joined run one after the other: the state after them, and the bytes that they sample
pub record RunsJoin {S : Type 0} (transitions : Transitions S) : Type 0 where
  pub state : (first second : List ByteCall) (state : S)
      → after transitions (first ++ second) state ≡ after transitions second (after transitions first state)
  pub bytes : (first second : List ByteCall) (state : S)
      → squeezed transitions (first ++ second) state
      ≡ squeezed transitions first state ++ squeezed transitions second (after transitions first state)

-- What a challenger is after a list of calls, begun in this state, of which one was refused: from the state after a proper prefix
-- of the calls, a refused call may leave it. The challengers have states, and `may_leave` says what a refused call may leave.
abbrev pub IsPartlyRun : {C S : Type 0} → Transitions S → (C → S) → (C → C → Type 0) → List ByteCall → S → C → Type 0
IsPartlyRun {C} transitions state_of may_leave calls old new =
    (count : ℕ) × (before : C) × (count < length calls) × (state_of before ≡ after transitions (take count calls) old)
    × may_leave before new
