use Rattle.std.proofs.Common.{map}
use Rattle.ghash_slices.proofs.BlockLemmas.{BytesSoFar}
use Rattle.ghash_slices.proofs.blocks.bytes_from.Given as goal

abbrev pub invariant-loop-place : goal.invariant-loop-place
invariant-loop-place g l = BytesSoFar (map g.W.Reads.number l.values) l.start l.place l.bytes
