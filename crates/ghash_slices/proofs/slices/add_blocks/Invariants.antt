use Rattle.std.proofs.Common.{◌*◌, map}
use Rattle.ghash_slices.specs.Blocks.{HoldsPlaces, added_at}
use Rattle.ghash_slices.specs.Multiples.{scalar_of}
use Rattle.ghash_slices.proofs.slices.add_blocks.Given as goal

-- the blocks before are done
abbrev pub invariant-loop-block : goal.invariant-loop-block
invariant-loop-block g l =
    let value = g.W.Reads.number in
    HoldsPlaces (added_at (scalar_of l.multiples) (map value l.fn.values) (map value l.others)) (16 * l.first) (16 * l.block)
    (map value l.fn.values) (map value l.values)
