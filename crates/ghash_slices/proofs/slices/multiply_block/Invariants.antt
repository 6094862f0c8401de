use Rattle.std.proofs.Common.{◌+◌, map}
use Rattle.ghash_slices.specs.Blocks.{HoldsPlaces, multiplied_at}
use Rattle.ghash_slices.specs.Multiples.{scalar_of}
use Rattle.ghash_slices.proofs.slices.multiply_block.Given as goal

-- the places before are written
abbrev pub invariant-loop-place : goal.invariant-loop-place
invariant-loop-place g l =
    let value = g.W.Reads.number in
    HoldsPlaces (multiplied_at (scalar_of l.multiples) (map value l.fn.values)) l.start (l.start + l.place) (map value l.fn.values)
    (map value l.values)
