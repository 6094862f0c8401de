use Rattle.std.proofs.Common.{◌≡◌}
use Rattle.field_base.specs.Powers.{repeated_square}
use Rattle.field_base.proofs.traits.ring.PrimeCharacteristicRing.exp_power_of_2.Given as goal

abbrev pub invariant-loop : goal.invariant-loop
invariant-loop g l =
    g.Self.Represented.repr l.value
    ≡ repeated_square g.Self.Represented.unit g.Self.Represented.product l.counter
    (g.Self.Represented.repr l.self)
