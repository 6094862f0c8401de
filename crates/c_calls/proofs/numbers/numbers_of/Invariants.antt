use Rattle.std.proofs.Common.{◌≡◌, length, map, take}
use Rattle.c_calls.specs.Fields.{wide_number}
use Rattle.c_calls.proofs.numbers.numbers_of.Given as goal

-- the places before hold their numbers
abbrev pub invariant-loop-place : goal.invariant-loop-place
invariant-loop-place g l =
    (length l.numbers ≡ g.row.N) × (take l.place l.numbers ≡ map wide_number (take l.place l.words))
