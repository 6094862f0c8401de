use Rattle.std.proofs.Common.{◌≡◌, length, map, take}
use Rattle.many_words.proofs.fields.read_each.Given as goal

-- the places before are read
abbrev pub invariant-loop-place : goal.invariant-loop-place
invariant-loop-place g l =
    (length l.words ≡ length l.places) × (map g.R.Stored.number (take l.place l.words) ≡ map g.P.Reads.number (take l.place l.places))
