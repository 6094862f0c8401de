use Rattle.std.proofs.Common.{◌≡◌, ℕ, ◌<◌, map}
use Rattle.std.specs.Prelude.{slice_index}
use Rattle.field_slices.proofs.systems.write_zeros.Given as goal

-- the places before this one are 0
abbrev pub invariant-loop-place : goal.invariant-loop-place
invariant-loop-place g l =
    let number = g.S.Scalars.number l.field in
    (j : ℕ) → j < l.place → slice_index (map number l.values) j ≡ 0
