use Rattle.std.proofs.Common.{◌≡◌, ◌^◌, ◌<◌}
use Rattle.field_base.specs.Powers.{repeated_square}
use Rattle.field_base.specs.Remainder.{mul_mod}
use Rattle.any_field.specs.Contexts.{with_top}
use Rattle.any_field.proofs.reduction.square_times.Given as goal

abbrev pub invariant-loop : goal.invariant-loop
invariant-loop l =
    record { squared : l.moved ≡ repeated_square 1 (mul_mod l.fn.width (with_top l.fn.width l.fn.tail)) l.counter l.fn.x; fits : l.moved < 2 ^ l.fn.width }
