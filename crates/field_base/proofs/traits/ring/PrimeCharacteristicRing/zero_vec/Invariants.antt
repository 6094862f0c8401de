use Rattle.std.proofs.Common.{◌≡◌, replicate}
use Rattle.field_base.proofs.traits.ring.PrimeCharacteristicRing.zero_vec.Given as goal

abbrev pub invariant-loop : goal.invariant-loop
invariant-loop g l = l.zeros.items ≡ replicate l.counter g.Self.PrimeCharacteristicRing.ZERO
