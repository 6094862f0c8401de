use Rattle.std.proofs.Common.{◌≡◌, ◌<◌, ◌^◌}
use Rattle.field_base.specs.Powers.{repeated_square}
use Rattle.field_element.proofs.element.ring.squarings.Given as goal

abbrev pub invariant-loop : goal.invariant-loop
invariant-loop g l =
    (g.R.Stored.number l.squared < 2 ^ g.K.FieldKernel.width)
    × (g.R.Stored.number l.squared ≡ repeated_square 1 g.K.FieldKernel.product l.counter (g.R.Stored.number l.fn.word))
