use Rattle.std.proofs.Common.{map}
use Rattle.std.specs.Prelude.{bit_xor}
use Rattle.std.specs.Simd.Lanes.{zip2}
use Rattle.field_base.proofs.Written.{WrittenTo}
use Rattle.field_base.proofs.traits.ring.PrimeCharacteristicRing.add_scaled.Given as goal

-- the places before this one are done
abbrev pub invariant-loop-place : goal.invariant-loop-place
invariant-loop-place g l =
    let ring = g.Self.Represented in
    WrittenTo ring.repr (zip2 (λ x y. bit_xor x (ring.product (ring.repr l.scalar) y)) (map ring.repr l.fn.sums) (map ring.repr l.values)) l.fn.sums l.sums l.place
