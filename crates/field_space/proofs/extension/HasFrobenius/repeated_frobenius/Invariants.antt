use Rattle.std.proofs.Common.{◌≡◌, ◌*◌}
use Rattle.field_base.specs.Powers.{repeated_square}
use Rattle.field_space.proofs.extension.HasFrobenius.repeated_frobenius.Given as goal

abbrev pub invariant-loop : goal.invariant-loop
invariant-loop g l =
    g.Self.Represented.repr l.value
    ≡ repeated_square 1 g.Self.Represented.product (g.F.Represented.width * l.counter) (g.Self.Represented.repr l.self)
