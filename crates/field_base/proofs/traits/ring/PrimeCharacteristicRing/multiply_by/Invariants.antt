use Rattle.std.proofs.Common.{map}
use Rattle.field_base.proofs.Written.{WrittenTo}
use Rattle.field_base.proofs.traits.ring.PrimeCharacteristicRing.multiply_by.Given as goal

-- the places before this one are done
abbrev pub invariant-loop-place : goal.invariant-loop-place
invariant-loop-place g l =
    let ring = g.Self.Represented in
    WrittenTo ring.repr (map (λ x. ring.product (ring.repr l.scalar) x) (map ring.repr l.fn.values)) l.fn.values l.values l.place
