use Rattle.std.proofs.Common.{map}
use Rattle.additive_transforms.proofs.PairLoops.{PairsSoFar, taken_pair}
use Rattle.additive_transforms.proofs.elements.pairs.run_pairs.Given as goal

-- the pairs before this one are done
abbrev pub invariant-loop-place : goal.invariant-loop-place
invariant-loop-place g l =
    let ring = g.E.Represented in
    PairsSoFar (taken_pair l.inverse ring.product (ring.repr l.s)) l.place (map ring.repr l.fn.lo) (map ring.repr l.fn.hi)
    (map ring.repr l.lo) (map ring.repr l.hi)
