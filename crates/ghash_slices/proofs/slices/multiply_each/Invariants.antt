use Rattle.std.proofs.Common.{map}
use Rattle.ghash_slices.specs.Blocks.{HoldsPlaces, multiplied_at}
use Rattle.ghash_slices.proofs.slices.multiply_each.Given as goal

-- the places before are written
abbrev pub invariant-loop-place : goal.invariant-loop-place
invariant-loop-place g l =
    let value = g.W.Reads.number in
    HoldsPlaces (multiplied_at (g.S.ScalarProducts.scalar l.products) (map value l.fn.values)) l.start l.place (map value l.fn.values)
    (map value l.values)
