-- Calls of the challenger of a field as values, and what lists of them do. An element has `size` bytes, `width` bits and a number,
-- its representation `repr`.
use Rattle.std.specs.Prelude.{◌≡◌, ◌<◌, ◌%◌, ◌^◌, ◌⊎◌, ℕ, Bool, true, List, [], ◌∷◌, ◌++◌, map, nat_eq, Vec}
use Rattle.std.specs.Int.{from_le_bytes, w64}
use Rattle.std.specs.List.{flat_map}
use Rattle.transcripts.specs.ByteCalls.{after, ByteCall, IsPartlyRun, observing, sampling, squeezed, Transitions}
use Rattle.transcripts.specs.declared.byte_challenger.ByteChallenger
use Rattle.field_bytes.specs.Bytes.{low_bytes, number_of_bytes}
use Rattle.transcript_elements.specs.Challengers.{challenger_refused, inner_of, state_after, state_of}
use Rattle.transcript_elements.specs.Sampled.{check_calls}
use Rattle.transcript_elements.specs.declared.calls.Call.{Call}
use Rattle.transcript_elements.specs.declared.calls.Call.TheVariants as call
use Rattle.transcript_elements.specs.declared.calls.Reply.{Reply}
use Rattle.transcript_elements.specs.declared.calls.Reply.TheVariants as reply
use Rattle.transcript_elements.specs.declared.challenger.BinaryChallenger.{BinaryChallenger}

-- whether a call may be made: it is for at most 63 bits
abbrev pub MayCall : {F : Type 0} → Call F → Type 0
MayCall (call.Observe element) = Unit {0}
MayCall call.Sample = Unit {0}
MayCall (call.SampleBits bits) = bits < 64
MayCall (call.CheckWitness bits witness) = bits < 64

-- the byte calls of a call
abbrev pub byte_calls : {F : Type 0} → ℕ → (F → ℕ) → Call F → List ByteCall
byte_calls size repr (call.Observe element) = observing (low_bytes size (repr element))
byte_calls size repr call.Sample = sampling size
byte_calls size repr (call.SampleBits bits) = sampling 8
byte_calls size repr (call.CheckWitness bits witness) = check_calls size bits (repr witness)

-- the byte calls of a list of calls, one call after the other
abbrev pub joined_calls : {F : Type 0} → ℕ → (F → ℕ) → List (Call F) → List ByteCall
joined_calls size repr calls = flat_map (byte_calls size repr) calls

-- what a call says: nothing, the representation of an element, a number of bits, or whether a witness passes
pub data Saying : Type 0 where
  Done : Saying
  Element : ℕ → Saying
  Bits : ℕ → Saying
  Passed : Bool → Saying

-- the saying that a reply gives
abbrev pub said : {F : Type 0} → (F → ℕ) → Reply F → Saying
said repr reply.Done = Done
said repr (reply.Element element) = Element (repr element)
said repr (reply.Bits number) = Bits number
said repr (reply.Passed passed) = Passed passed

-- the saying of a call whose byte calls sample these bytes, the lowest first
abbrev pub saying_from : {F : Type 0} → ℕ → Call F → List ℕ → Saying
saying_from width (call.Observe element) bytes = Done
saying_from width call.Sample bytes = Element (number_of_bytes bytes % 2 ^ width)
saying_from width (call.SampleBits bits) bytes = Bits (from_le_bytes w64 bytes % 2 ^ bits)
saying_from width (call.CheckWitness bits witness) bytes = Passed (nat_eq (from_le_bytes w64 bytes % 2 ^ bits) 0)

-- the sayings of a list of calls, each made in the state that the byte calls of those before it leave
unfoldable pub call_sayings : {F S : Type 0} → ℕ → ℕ → (F → ℕ) → Transitions S → List (Call F) → S → List Saying
call_sayings size width repr transitions [] state = []
call_sayings size width repr transitions (call ∷ calls) state =
    saying_from width call (squeezed transitions (byte_calls size repr call) state)
    ∷ call_sayings size width repr transitions calls (after transitions (byte_calls size repr call) state)

-- the new replies are the old ones, followed by replies that give these sayings
abbrev pub AppendsSayings : {F : Type 0} → (F → ℕ) → List Saying → List (Reply F) → List (Reply F) → Type 0
AppendsSayings {F} repr sayings old new =
    (replies : List (Reply F)) × (new ≡ old ++ replies) × (map (said repr) replies ≡ sayings)

-- the reply gives the saying of the call, made in the state of this challenger
abbrev pub IsReplyTo : {F C : Type 0} {c : ByteChallenger.Ghosts C} → ℕ → ℕ → (F → ℕ) → Call F → BinaryChallenger F C c → Reply F
    → Type 0
IsReplyTo {c = c} size width repr call challenger reply =
    said repr reply ≡ saying_from width call (squeezed c.transitions (byte_calls size repr call) (state_of challenger))

-- a reply to each of the calls was appended, made from the state of this challenger on
abbrev pub AppendsReplies : {F C A : Type 0} {c : ByteChallenger.Ghosts C} → ℕ → ℕ → (F → ℕ) → List (Call F)
    → BinaryChallenger F C c → Vec (Reply F) A → Vec (Reply F) A → Type 0
AppendsReplies {c = c} size width repr calls challenger old new =
    AppendsSayings repr (call_sayings size width repr c.transitions calls (state_of challenger)) old.items new.items

-- Where a call in the list was refused: the replies to the calls before it were appended, and the byte challenger, which has run the
-- byte calls of those, has refused one of the byte calls of this one, and is what that has left.
abbrev pub StopsAtCall : {F C A : Type 0} {c : ByteChallenger.Ghosts C} → ℕ → ℕ → (F → ℕ) → List (Call F)
    → BinaryChallenger F C c → BinaryChallenger F C c → Vec (Reply F) A → Vec (Reply F) A → Type 0
StopsAtCall {F} {c = c} size width repr calls challenger challenger' old new =
    (before : List (Call F)) × (call : Call F) × (rest : List (Call F)) × (calls ≡ before ++ call ∷ rest)
    × AppendsReplies size width repr before challenger old new
    × IsPartlyRun c.transitions c.state c.may_leave (byte_calls size repr call)
    (state_after (joined_calls size repr before) challenger) (inner_of challenger')
    × (challenger_refused challenger' ≡ true)

-- Where a list of calls stopped that failed: either before the first call, with the byte challenger and the replies as before, or
-- at a call that the byte challenger refused.
abbrev pub StopsEarly : {F C A : Type 0} {c : ByteChallenger.Ghosts C} → ℕ → ℕ → (F → ℕ) → List (Call F)
    → BinaryChallenger F C c → BinaryChallenger F C c → Vec (Reply F) A → Vec (Reply F) A → Type 0
StopsEarly size width repr calls challenger challenger' old new =
    (inner_of challenger' ≡ inner_of challenger) × (new.items ≡ old.items)
    ⊎ StopsAtCall size width repr calls challenger challenger' old new
