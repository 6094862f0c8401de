use Rattle.std.proofs.Common.{◌≡◌, ◌≤◌, length, take}
use Rattle.c_calls.proofs.FlaggedPlaces.{AreListed}
use Rattle.c_calls.proofs.codes.list_places.Given as goal

-- the flagged places before this one are listed
abbrev pub invariant-loop-i : goal.invariant-loop-i
invariant-loop-i l = (l.count ≤ l.i) × (length l.places ≡ length l.initial.places) × AreListed l.flags (take l.count l.places) l.i
