use Rattle.std.proofs.Common.{◌≡◌}
use Rattle.field_base.specs.Powers.{repeated_square}
use Rattle.field_slices.proofs.horner.squared.Given as goal

abbrev pub invariant-loop : goal.invariant-loop
invariant-loop g l =
    let number = g.S.Scalars.number l.field in
    let times = g.S.Scalars.product l.field in
    number l.value ≡ repeated_square 1 times l.counter (number l.fn.x)
