use Rattle.std.proofs.Common.{◌≡◌, length, take}
use Rattle.std.specs.Array.{FillsFrom}
use Rattle.packed_lanes.proofs.draws.random_into.Given as goal

-- the draws so far gave the places before this one
abbrev pub invariant-loop-place : goal.invariant-loop-place
invariant-loop-place g l =
    (length l.target ≡ length l.fn.target)
    × FillsFrom (λ before place value after. g.T.SampleStandard.draws before value after) (g.R.Rng.stream l.fn.rng) 0 (take l.place l.target)
    (g.R.Rng.stream l.rng)
