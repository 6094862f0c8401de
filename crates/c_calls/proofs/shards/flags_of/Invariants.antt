use Rattle.std.proofs.Common.{◌≡◌, length, take}
use Rattle.c_calls.specs.Bytes.{flags_of}
use Rattle.c_calls.proofs.shards.flags_of.Given as goal

-- the places before have their flags
abbrev pub invariant-loop-place : goal.invariant-loop-place
invariant-loop-place g l =
    (length l.flags ≡ g.row.N) × (take l.place l.flags ≡ flags_of (take l.place l.present))
