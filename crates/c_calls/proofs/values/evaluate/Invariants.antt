use Rattle.std.proofs.Common.{◌≡◌, ℕ, ◌<◌, get_or}
use Rattle.field_base.specs.Powers.{value_of}
use Rattle.c_calls.proofs.values.evaluate.Given as goal

-- the places before this one hold their values
abbrev pub invariant-loop-place : goal.invariant-loop-place
invariant-loop-place g l =
    let field = g.S.ScalarWords.field l.field in
    (k : ℕ) → k < l.place → (d : _)
    → field.number (get_or l.values k d) ≡ value_of 1 field.times field.number l.coefficients (field.number (get_or l.points k d))
