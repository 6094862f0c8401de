use Rattle.std.proofs.Common.{◌≡◌, drop}
use Rattle.field_base.specs.Powers.{value_of}
use Rattle.field_slices.proofs.horner.value_one_by_one.Given as goal

-- what is there is the value of the coefficients from this place on
abbrev pub invariant-loop-place : goal.invariant-loop-place
invariant-loop-place g l =
    let number = g.S.Scalars.number l.field in
    let times = g.S.Scalars.product l.field in
    number l.value ≡ value_of 1 times number (drop l.place l.coefficients) (number l.x)
