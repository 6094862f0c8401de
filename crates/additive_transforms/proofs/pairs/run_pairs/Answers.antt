use Rattle.std.proofs.Common.{true, false, arith}
use Rattle.additive_transforms.proofs.PairLoops.{slices_end, slices_step}
use Rattle.additive_transforms.proofs.pairs.run_pairs.Goals as goal
use Rattle.additive_transforms.proofs.pairs.run_pairs.Goals.{then-inverse, else-inverse}

pub loop-place-preserved : goal.loop-place-preserved
loop-place-preserved g c =
    let step = slices_step g.P.PairKernel.value c.args.s c.loop-place.place c.args.lo.now c.args.hi.now c.loop-place.lo c.loop-place.hi
    c.requires c.loop-place-test.true c.args.inverse c.loop-place.invariant in
    elim c.if-inverse.branch [
      | then-inverse w ↦
          step true w.if-inverse.true w.index-lo-place.result w.index-hi-place.result w.inverse_pair.new.lo w.inverse_pair.new.hi _ _
          w.lo-is w.hi-is (w.inverse_pair.ensures.high, w.inverse_pair.ensures.low)
      | else-inverse w ↦
          step false w.if-inverse.false w.index-lo-place-else-inverse.result w.index-hi-place-else-inverse.result w.forward_pair.new.lo
          w.forward_pair.new.hi _ _ w.lo-is w.hi-is (w.forward_pair.ensures.low, w.forward_pair.ensures.high)
    ]

pub returns : goal.returns
returns g c =
    slices_end g.P.PairKernel.value c.args.s c.loop-place.place c.args.lo.now c.args.hi.now c.loop-place.lo c.loop-place.hi c.requires
    (omega arith) c.args.inverse c.loop-place.invariant
