use Rattle.std.proofs.Common.{map}
use Rattle.ghash_slices.specs.LowStages.{ghash_product}
use Rattle.additive_transforms.proofs.PairLoops.{PairsSoFar, one_of}
use Rattle.additive_transforms.proofs.pairs.run_pairs.Given as goal

-- the pairs before this one are done
abbrev pub invariant-loop-place : goal.invariant-loop-place
invariant-loop-place g l =
    let value = g.P.PairKernel.value in
    PairsSoFar (one_of l.inverse ghash_product l.s) l.place (map value l.fn.lo) (map value l.fn.hi) (map value l.lo) (map value l.hi)
