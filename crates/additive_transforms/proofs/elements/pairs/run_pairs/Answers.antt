use Rattle.std.proofs.Common.{arith}
use Rattle.additive_transforms.proofs.PairLoops.{pairs_step, taken_ends, taken_pair}
use Rattle.additive_transforms.proofs.elements.pairs.run_pairs.Goals as goal

pub loop-place-preserved : goal.loop-place-preserved
loop-place-preserved g c =
    let ring = g.E.Represented in
    pairs_step ring.repr (taken_pair c.args.inverse ring.product (ring.repr c.args.s)) c.loop-place.place c.args.lo.now c.args.hi.now
    c.loop-place.lo c.loop-place.hi c.index-lo-place.result c.index-hi-place.result c.run_pair.new.lo c.run_pair.new.hi
    c.requires c.loop-place-test.true c.run_pair.ensures c.loop-place.invariant

pub returns-clause-values : goal.returns-clause-values
returns-clause-values g c =
    taken_ends g.E.Represented.repr g.E.Represented.product (g.E.Represented.repr c.args.s) c.loop-place.place c.args.lo.now c.args.hi.now
    c.loop-place.lo c.loop-place.hi c.requires (omega arith) c.args.inverse c.loop-place.invariant
