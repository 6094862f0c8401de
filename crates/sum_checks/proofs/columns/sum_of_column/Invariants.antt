use Rattle.std.proofs.Common.{◌≡◌, map}
use Rattle.std.specs.Prelude.{slice_index}
use Rattle.field_base.specs.Basis.{sum_below}
use Rattle.sum_checks.proofs.columns.sum_of_column.Given as goal

-- the sum so far is that of the places before this one
abbrev pub invariant-loop-place : goal.invariant-loop-place
invariant-loop-place g l =
    let repr = g.F.Represented.repr in
    repr l.sum ≡ sum_below (slice_index (map repr l.column)) l.place
