use Rattle.std.proofs.Common.{◌≡◌, map}
use Rattle.std.specs.List.{range_with_len}
use Rattle.field_base.specs.Powers.{power}
use Rattle.field_slices.proofs.powers.shifted_powers_vec.Given as goal

-- as many powers as the counter says, and the next one
abbrev pub invariant-loop : goal.invariant-loop
invariant-loop g l =
    let ring = g.R.Represented in
    (map ring.repr l.powers.items
    ≡ map (λ i. ring.product (ring.repr l.fn.first) (power ring.unit ring.product (ring.repr l.base) i)) (range_with_len 0 l.counter))
    × (ring.repr l.current ≡ ring.product (ring.repr l.fn.first) (power ring.unit ring.product (ring.repr l.base) l.counter))
