use Rattle.std.proofs.Common.{◌*◌, map}
use Rattle.ghash_slices.specs.Blocks.{HoldsPlaces, multiplied_at}
use Rattle.ghash_slices.specs.Multiples.{scalar_of}
use Rattle.ghash_slices.proofs.slices.multiply_in_lanes.Given as goal

-- the blocks before are multiplied
abbrev pub invariant-loop-block : goal.invariant-loop-block
invariant-loop-block g l =
    let value = g.W.Reads.number in
    HoldsPlaces (multiplied_at (scalar_of l.multiples) (map value l.fn.values)) 0 (16 * l.block) (map value l.fn.values) (map value l.values)
