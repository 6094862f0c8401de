use Rattle.std.proofs.Common.{◌*◌, map}
use Rattle.ghash_slices.specs.Blocks.{HoldsPlaces, added_at}
use Rattle.ghash_slices.specs.Multiples.{scalar_of}
use Rattle.ghash_slices.proofs.slices.add_in_lanes.Given as goal

-- the pairs of blocks before are done
abbrev pub invariant-loop-pair : goal.invariant-loop-pair
invariant-loop-pair g l =
    let value = g.W.Reads.number in
    HoldsPlaces (added_at (scalar_of l.multiples) (map value l.fn.values) (map value l.others)) 0 (32 * l.pair)
    (map value l.fn.values) (map value l.values)
