-- Elements that are observed one after the other in a challenger of a field, as bytes of the byte challenger below it. An element has
-- `size` bytes and a number, its representation `repr`.
use Rattle.std.specs.Prelude.{◌≡◌, ℕ, List}
use Rattle.field_bytes.specs.Bytes.{low_bytes}
use Rattle.field_bytes.specs.Streams.{joined_bytes}
use Rattle.transcripts.specs.ByteCalls.{observing}
use Rattle.transcripts.specs.declared.byte_challenger.ByteChallenger
use Rattle.transcript_elements.specs.Challengers.{state_after, state_of}
use Rattle.transcripts.specs.Lists.{InTurn}
use Rattle.transcript_elements.specs.declared.challenger.BinaryChallenger.{BinaryChallenger}

-- an element is observed: its bytes are, the lowest first
abbrev pub ObservesElement : {F C : Type 0} {c : ByteChallenger.Ghosts C} → ℕ → (F → ℕ) → BinaryChallenger F C c → F
    → BinaryChallenger F C c → Type 0
ObservesElement size repr old element new = state_of new ≡ state_after (observing (low_bytes size (repr element))) old

-- where elements are observed in turn, their bytes are, those of one element after those of the one before it
abbrev pub ElementsJoin : {F C : Type 0} → ByteChallenger.Ghosts C → ℕ → (F → ℕ) → Type 0
ElementsJoin {F} {C} c size repr =
    (elements : List F) (old new : BinaryChallenger F C c) → InTurn (ObservesElement size repr) elements old new
    → state_of new ≡ state_after (observing (joined_bytes size repr elements)) old
