-- What a contract sees of the challenger of a field.
use Rattle.std.specs.Prelude.{Bool, List}
use Rattle.transcripts.specs.ByteCalls.{after, ByteCall, IsPartlyRun}
use Rattle.transcripts.specs.declared.byte_challenger.ByteChallenger
use Rattle.transcript_elements.specs.declared.challenger.BinaryChallenger.{BinaryChallenger}

-- the byte challenger that is guarded
abbrev pub inner_of : {F C : Type 0} {c : ByteChallenger.Ghosts C} → BinaryChallenger F C c → C
inner_of challenger = challenger.guarded.inner

-- the state of the byte challenger
abbrev pub state_of : {F C : Type 0} {c : ByteChallenger.Ghosts C} → BinaryChallenger F C c → c.State
state_of {c = c} challenger = c.state challenger.guarded.inner

-- the state that byte calls leave, from the state of this challenger
abbrev pub state_after : {F C : Type 0} {c : ByteChallenger.Ghosts C} → List ByteCall → BinaryChallenger F C c → c.State
state_after {c = c} calls challenger = after c.transitions calls (c.state challenger.guarded.inner)

-- whether a call has failed
abbrev pub challenger_failed : {F C : Type 0} {c : ByteChallenger.Ghosts C} → BinaryChallenger F C c → Bool
challenger_failed challenger = challenger.guarded.has_failed

-- whether the byte challenger has refused a call
abbrev pub challenger_refused : {F C : Type 0} {c : ByteChallenger.Ghosts C} → BinaryChallenger F C c → Bool
challenger_refused {c = c} challenger = c.has_refused challenger.guarded.inner

-- the byte challenger refused one of these byte calls, begun in the state of the first, and is what that call left
abbrev pub StopsWithin : {F C : Type 0} {c : ByteChallenger.Ghosts C} → List ByteCall → BinaryChallenger F C c → BinaryChallenger F C c
    → Type 0
StopsWithin {c = c} calls old new =
    IsPartlyRun c.transitions c.state c.may_leave calls (c.state old.guarded.inner) new.guarded.inner
