use Rattle.std.proofs.Common.{◌≡◌}
use Rattle.field_base.specs.Powers.{power}
use Rattle.field_base.proofs.traits.ring.PrimeCharacteristicRing.exp_u64.Given as goal

-- what is left to multiply, times what is there, is the whole power
abbrev pub invariant-loop-rest : goal.invariant-loop-rest
invariant-loop-rest g l =
    let open_ring = g.Self.Represented in
    open_ring.product (open_ring.repr l.value)
    (power open_ring.unit open_ring.product (open_ring.repr l.base) l.rest)
    ≡ power open_ring.unit open_ring.product (open_ring.repr l.self) l.exponent

abbrev pub decreases-loop-rest : goal.decreases-loop-rest
decreases-loop-rest g l = l.rest
