use Rattle.std.proofs.Common.{◌≡◌, ◌+◌, ◌*◌, length, map}
use Rattle.std.specs.List.{flat_map, range_with_len}
use Rattle.packed_lanes.specs.Packed.{lanes_of}
use Rattle.field_slices.proofs.PackedPowers.{shifted_power}
use Rattle.field_slices.proofs.packings.powers.packed_powers_vec.Given as goal

-- as many packings as the counter says, and the next one
abbrev pub invariant-loop : goal.invariant-loop
invariant-loop g l =
    let ring = g.F.Represented in
    let powers = shifted_power ring.unit ring.product (ring.repr l.fn.base) (ring.repr l.fn.first) in
    (length l.packings.items ≡ l.counter)
    × (map ring.repr (flat_map lanes_of l.packings.items) ≡ map powers (range_with_len 0 (l.counter * g.row.N)))
    × (map ring.repr (lanes_of l.current) ≡ map (λ j. powers (l.counter * g.row.N + j)) (range_with_len 0 g.row.N))
