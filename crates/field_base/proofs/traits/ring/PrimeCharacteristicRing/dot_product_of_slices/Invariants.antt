use Rattle.std.proofs.Common.{◌≡◌, drop}
use Rattle.std.specs.Prelude.{bit_xor}
use Rattle.field_base.specs.Powers.{dot_of}
use Rattle.field_base.proofs.traits.ring.PrimeCharacteristicRing.dot_product_of_slices.Given as goal

-- the sum so far, and that of the places from here on, are the whole
abbrev pub invariant-loop-place : goal.invariant-loop-place
invariant-loop-place g l =
    bit_xor (g.Self.Represented.repr l.sum)
    (dot_of g.Self.Represented.product g.Self.Represented.repr (drop l.place l.left) (drop l.place l.right))
    ≡ dot_of g.Self.Represented.product g.Self.Represented.repr l.left l.right
