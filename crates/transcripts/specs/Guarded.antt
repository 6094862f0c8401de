-- What a contract sees of a guarded byte challenger.
use Rattle.std.specs.Prelude.{Bool, List}
use Rattle.transcripts.specs.ByteCalls.{after, ByteCall, IsPartlyRun}
use Rattle.transcripts.specs.declared.byte_challenger.ByteChallenger
use Rattle.transcripts.specs.declared.guarded.Guarded.{Guarded}

-- the challenger that is guarded
abbrev pub guarded_inner : {C : Type 0} {c : ByteChallenger.Ghosts C} → Guarded C c → C
guarded_inner guarded = guarded.inner

-- the state of the challenger that is guarded
abbrev pub guarded_state : {C : Type 0} {c : ByteChallenger.Ghosts C} → Guarded C c → c.State
guarded_state {c = c} guarded = c.state guarded.inner

-- the state that byte calls leave, from the state of the challenger that is guarded
abbrev pub guarded_after : {C : Type 0} {c : ByteChallenger.Ghosts C} → List ByteCall → Guarded C c → c.State
guarded_after {c = c} calls guarded = after c.transitions calls (c.state guarded.inner)

-- whether the challenger that is guarded has refused a byte call
abbrev pub guarded_refused : {C : Type 0} {c : ByteChallenger.Ghosts C} → Guarded C c → Bool
guarded_refused {c = c} guarded = c.has_refused guarded.inner

-- whether a call has failed
abbrev pub guarded_failed : {C : Type 0} {c : ByteChallenger.Ghosts C} → Guarded C c → Bool
guarded_failed guarded = guarded.has_failed

-- the challenger that is guarded refused one of these byte calls, begun in the state of the first, and is what that call left
abbrev pub RunsPartly : {C : Type 0} {c : ByteChallenger.Ghosts C} → List ByteCall → Guarded C c → Guarded C c → Type 0
RunsPartly {c = c} calls old new = IsPartlyRun c.transitions c.state c.may_leave calls (c.state old.inner) new.inner
