use Rattle.std.proofs.Common.{map}
use Rattle.ghash_slices.specs.Blocks.{HoldsPlaces, added_at}
use Rattle.ghash_slices.proofs.slices.add_products.Given as goal

-- the places before are written
abbrev pub invariant-loop-place : goal.invariant-loop-place
invariant-loop-place g l =
    let value = g.W.Reads.number in
    HoldsPlaces (added_at (g.S.ScalarProducts.scalar l.products) (map value l.fn.values) (map value l.others)) l.start l.place
    (map value l.fn.values) (map value l.values)
