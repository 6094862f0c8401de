use Rattle.std.proofs.Common.{◌≡◌, map, take}
use Rattle.std.specs.List.{range_with_len}
use Rattle.field_base.specs.Powers.{power}
use Rattle.packed_lanes.specs.Packed.{lanes_of}
use Rattle.field_slices.proofs.packings.powers.packed_powers.Given as goal

-- the lanes before this one have their powers, and the next one is at hand
abbrev pub invariant-loop-lane : goal.invariant-loop-lane
invariant-loop-lane g l =
    let ring = g.F.Represented in
    (map ring.repr (take l.lane (lanes_of l.packing))
    ≡ map (λ j. ring.product (ring.repr l.fn.first) (power ring.unit ring.product (ring.repr l.base) j)) (range_with_len 0 l.lane))
    × (ring.repr l.current ≡ ring.product (ring.repr l.fn.first) (power ring.unit ring.product (ring.repr l.base) l.lane))
